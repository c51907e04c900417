-- From whichever state the labels were raised: the groups before the next place have had their turn.
use Rattle.std.proofs.Common.{length}
use Rattle.kc_words.specs.declared.layout.TheConstants.{TOP_ROOM}
use Rattle.kc_relabel.proofs.Stepping.{shrunk_before}
use Rattle.kc_list.specs.Views.{evenly}
use Rattle.kc_list.specs.Retops.{IsRaised, Retopway, even_schedule, tops_of}
use Rattle.kc_list.specs.declared.labelled.LabelledList.{LabelledList}
use Rattle.kc_list.proofs.labelled.LabelledList.lower_tops.Given as goal

abbrev pub invariant-loop-place : goal.invariant-loop-place
invariant-loop-place l = (start : LabelledList) → IsRaised l.groups start l.initial.self → Retopway start l.self l.groups (even_schedule start l.groups)
    (shrunk_before l.place (tops_of start l.groups) (evenly (length l.groups) TOP_ROOM))
