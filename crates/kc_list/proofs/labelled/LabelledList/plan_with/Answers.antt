-- The labels of the members are read, and scheduled from there.
use Rattle.std.proofs.Common.{ℕ, List, subst, take}
use Rattle.kc_words.specs.declared.layout.TheConstants.{BOTTOM_ROOM}
use Rattle.kc_list.specs.Scheduling.{SpreadsEvenly}
use Rattle.kc_list.proofs.labelled.LabelledList.plan_with.Goals as goal

pub schedule_evenly-requires-clause-ascends : goal.schedule_evenly-requires-clause-ascends
schedule_evenly-requires-clause-ascends c = rw c.read_labels.ensures c.requires.ascends

pub returns-clause-spreads : goal.returns-clause-spreads
returns-clause-spreads c =
    subst (λ (xs : List ℕ). SpreadsEvenly BOTTOM_ROOM xs (take c.schedule_evenly.result c.schedule_evenly.new.steps)) c.read_labels.ensures
    c.schedule_evenly.ensures.spreads
