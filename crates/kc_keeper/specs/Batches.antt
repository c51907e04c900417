-- Updates that are made in turn.
use Rattle.std.specs.Prelude.{◌+◌, ◌&&◌, not, ℕ, Bool, List, [], ◌∷◌, Result, Ok, Err, map, reverse, take, if◌then◌else◌}
use Rattle.kc_graph.specs.SimpleGraph.{SimpleGraph}
use Rattle.kc_graph.specs.Plans.{is_applied, updated}
use Rattle.kc_graph.specs.declared.update.Update.{Update}
use Rattle.kc_keeper.specs.declared.fault.ApplyFault.{ApplyFault}
use Rattle.kc_keeper.specs.declared.fault.ApplyFault.TheVariants.{NoVertex, NoMemory}

-- the graph after updates in turn
abbrev pub made_in_turn : SimpleGraph → List Update → SimpleGraph
made_in_turn g [] = g
made_in_turn g (u ∷ us) = made_in_turn (updated u g) us

-- how many of the updates that are meant change the graph, where all are made in turn
abbrev pub count_applied : (Update → Bool) → SimpleGraph → List Update → ℕ
count_applied is_meant g [] = 0
count_applied is_meant g (u ∷ us) = (if is_meant u && is_applied u g then 1 else 0) + count_applied is_meant (updated u g) us

-- those of the updates that change the graph, where all are made in turn
abbrev pub applied_in_turn : SimpleGraph → List Update → List Update
applied_in_turn g [] = []
applied_in_turn g (u ∷ us) = if is_applied u g then u ∷ applied_in_turn (updated u g) us else applied_in_turn (updated u g) us

-- the update that takes this one back, where it changed the graph
abbrev pub opposite : Update → Update
opposite u = record u { add = not u.add }

-- the opposite of each, from the last to the first
abbrev pub inverse_of : List Update → List Update
inverse_of us = map opposite (reverse us)

-- which updates of a batch were made, by its answer
abbrev pub updates_made : Result (Unit {0}) ApplyFault → List Update → List Update
updates_made (Ok _) us = us
updates_made (Err (NoVertex place vertex)) us = []
updates_made (Err (NoMemory made)) us = take made us
