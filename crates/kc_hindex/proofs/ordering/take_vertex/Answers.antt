-- The vertex stands at the end of the order, and its neighbours have one less left.
use Rattle.std.proofs.lemmas.Result.{on_ok_weaker}
use Rattle.kc_graph.specs.Rows.{lists}
use Rattle.kc_graph.specs.Peeling.{at}
use Rattle.kc_graph.proofs.PeelingLemmas.{neighbours-distinct}
use Rattle.kc_hindex.proofs.Taking.{vertex-taken}
use Rattle.kc_hindex.proofs.ordering.take_vertex.Goals as goal

pub release_each-requires-clause-distinct : goal.release_each-requires-clause-distinct
release_each-requires-clause-distinct c = neighbours-distinct c.args.graph.now c.args.v c.neighbours.result.now c.neighbours.ensures

pub returns-clause-orders : goal.returns-clause-orders
returns-clause-orders c = on_ok_weaker c.release_each.result
    (λ h. rw c.in_ok-push.ensures.items
    (vertex-taken c.args.graph.now c.args.core.now (at c.args.core.now c.args.v) c.args.v c.args.left.now c.args.order.now.items
    (lists c.args.waiting.now) c.requires.next _ _ _ c.neighbours.ensures h))
    c.release_each.ensures
