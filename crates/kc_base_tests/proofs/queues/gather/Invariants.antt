-- The parts of all are kept, and what was told is what was taken, in the same order.
use Rattle.std.proofs.Common.{◌≡◌, ◌+◌, vec_len}
use Rattle.kc_base_tests.proofs.queues.gather.Given as goal

abbrev pub invariant-loop-worker : goal.invariant-loop-worker
invariant-loop-worker g l =
    (l.all.taken ≡ l.told.items) × (l.all.queue ≡ l.initial.all.queue) × (l.all.parts + vec_len l.workers ≡ l.initial.all.parts + vec_len l.fn.workers)

abbrev pub decreases-loop-worker : goal.decreases-loop-worker
decreases-loop-worker g l = vec_len l.workers
