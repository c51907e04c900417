-- Each turn hires one worker, for one of the parts.
use Rattle.std.proofs.Common.{◌≡◌, ◌+◌, ◌≤◌, vec_len}
use Rattle.kc_base_tests.proofs.queues.hire.Given as goal

abbrev pub invariant-loop : goal.invariant-loop
invariant-loop g l =
    (l.all.queue ≡ l.fn.all.queue) × (l.all.taken ≡ l.fn.all.taken) × (l.all.parts + vec_len l.workers ≡ l.fn.all.parts)
    × (l.fn.count ≤ l.workers.cap) × (vec_len l.workers ≡ l.counter)
