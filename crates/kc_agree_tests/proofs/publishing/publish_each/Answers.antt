-- The opening neighbours are the vertex's list under any number up to that of the last entry before the table.
use Rattle.std.proofs.Common.{subst, arith}
use Rattle.kc_graph.specs.SimpleGraph.{SimpleGraph}
use Rattle.kc_graph.specs.Neighbours.{AreNeighbours}
use Rattle.kc_graph.specs.declared.used.UsedEdges.{UsedEdges}
use Rattle.kc_agree.proofs.Growing.{opened_with}
use Rattle.kc_agree_tests.proofs.publishing.publish_each.Goals as goal

pub publish-requires-clause-was : goal.publish-requires-clause-was
publish-requires-clause-was g c =
    let e : UsedEdges = record { vertex = c.loop-vertex.vertex; at = c.args.at; neighbours = c.list_of-neighbours.result } in
    let opening : AreNeighbours g.K.Name.opened.edges c.loop-vertex.vertex c.list_of-neighbours.result =
    subst (λ (x : SimpleGraph). AreNeighbours x c.loop-vertex.vertex c.list_of-neighbours.result) c.requires.graph.0 c.list_of-neighbours.ensures in
    opened_with g.K.Name.opened.table g.K.Name.opened.edges c.loop-vertex.pass.log e (omega (arith, c.requires.graph.1)) c.requires.at opening
