-- The members from the place `left` on have moved, and the others wait.
use Rattle.kc_list.proofs.Cutting.{Upway}
use Rattle.kc_list.proofs.labelled.LabelledList.move_all.Given as goal

abbrev pub invariant-loop-left : goal.invariant-loop-left
invariant-loop-left l = Upway l.initial.self l.self l.cut.group l.cut.fresh l.cut.low.now l.cut.ups.now l.left

abbrev pub decreases-loop-left : goal.decreases-loop-left
decreases-loop-left l = l.left
