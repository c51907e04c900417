-- The edges of the next vertex are listed behind those of the vertices before it.
use Rattle.std.proofs.Common.{◌+◌, subst, sym}
use Rattle.kc_watch.specs.Room.{ListsEdgesBelow}
use Rattle.kc_watch.proofs.FirstEdges.{lists-next}
use Rattle.kc_watch.proofs.first_graph.list_edges.Goals as goal

pub loop-vertex-preserved : goal.loop-vertex-preserved
loop-vertex-preserved c =
    subst (ListsEdgesBelow c.args.graph.now (c.loop-vertex.vertex + 1)) (sym c.in_ok-put_edges.ensures)
    (lists-next c.args.graph.now c.args.vertices c.requires.edges c.loop-vertex.vertex c.neighbours.result.now c.loop-vertex.edges.items
    (record { ascending = c.neighbours.ensures.ascending; within = c.neighbours.ensures.within; exact = c.neighbours.ensures.exact })
    (record { edges = c.loop-vertex.invariant.edges; whole = c.loop-vertex.invariant.whole }))
