-- The groups from the next place on have had their turn.
use Rattle.std.proofs.Common.{◌≤◌, length}
use Rattle.kc_words.specs.declared.layout.TheConstants.{TOP_ROOM}
use Rattle.kc_relabel.proofs.Stepping.{grown_from}
use Rattle.kc_list.specs.Views.{evenly}
use Rattle.kc_list.specs.Retops.{Retopway, even_schedule, tops_of}
use Rattle.kc_list.proofs.labelled.LabelledList.raise_tops.Given as goal

abbrev pub invariant-loop-left : goal.invariant-loop-left
invariant-loop-left l = (l.left ≤ length l.groups) × Retopway l.initial.self l.self l.groups (even_schedule l.initial.self l.groups)
    (grown_from l.left (tops_of l.initial.self l.groups) (evenly (length l.groups) TOP_ROOM))

abbrev pub decreases-loop-left : goal.decreases-loop-left
decreases-loop-left l = l.left
