-- The list has the candidates among the queued vertices so far, in the order of the queue.
use Rattle.std.proofs.Common.{◌≡◌, take}
use Rattle.std.specs.List.{filter}
use Rattle.kc_insert.specs.Rising.{is_candidate}
use Rattle.kc_insert.proofs.rising.Rising.candidates.Given as goal

abbrev pub invariant-loop-i : goal.invariant-loop-i
invariant-loop-i l = l.list.items ≡ filter (is_candidate l.self) (take l.i l.self.queue.items)
