-- Each neighbour so far that is on the level has lost one, and stands in the next layer if it had one more than the level.
use Rattle.std.proofs.Common.{take}
use Rattle.kc_tally.specs.Taking.{LetGo}
use Rattle.kc_tally.proofs.layering.release_each.Given as goal

abbrev pub invariant-loop-w : goal.invariant-loop-w
invariant-loop-w l = LetGo l.core l.level (take l.w-index l.neighbours) l.fn.left l.fn.next.items l.left l.next.items
