-- The order certifies the numbers, so they are the core numbers.
use Rattle.kc_graph.proofs.Law.{certified-core_numbers}
use Rattle.kc_flat.proofs.peeling.core_numbers.Goals as goal

pub returns : goal.returns
returns c =
    certified-core_numbers c.args.graph.now c.in_ok-decomposition.decomposition.core.items c.in_ok-decomposition.decomposition.order.items
    c.in_ok-decomposition.ensures
