-- The order in which the vertices were taken certifies their numbers, so they are the core numbers.
use Rattle.kc_graph.proofs.Law.{certified-core_numbers}
use Rattle.kc_graph.proofs.peeling.core_numbers.Goals as goal

pub returns : goal.returns
returns c = certified-core_numbers c.args.graph.now c.in_ok-removal.removal.core.items c.in_ok-removal.removal.order.items c.in_ok-removal.ensures
