-- By the kind of the moves.
use Rattle.kc_agree.proofs.Planning.{graph_of_plan}
use Rattle.kc_agree.proofs.laws.a_local_plan_changes_the_graph_as_its_entry_does.Goals as goal

pub returns : goal.returns
returns c = λ s plan index local. graph_of_plan plan.update plan.moves s.graph index local.kept
