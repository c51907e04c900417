-- The steps before the next are done, and the words of the others wait.
use Rattle.kc_list.proofs.Relabelling.{Onway}
use Rattle.kc_list.proofs.labelled.LabelledList.relabel_all.Given as goal

abbrev pub invariant-loop-place : goal.invariant-loop-place
invariant-loop-place l = Onway l.initial.self l.self l.group l.members l.steps l.place-index
