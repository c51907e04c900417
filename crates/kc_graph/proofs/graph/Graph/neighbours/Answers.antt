-- The row of a vertex has its neighbours.
use Rattle.std.proofs.Common.{arith, sym, subst}
use Rattle.kc_graph.specs.Neighbours.{AreNeighbours}
use Rattle.kc_graph.proofs.RowsLemmas.{size-view, neighbours-view}
use Rattle.kc_graph.proofs.graph.Graph.neighbours.Goals as goal

pub get-requires : goal.get-requires
get-requires c = omega (arith, size-view c.self.inside.rows c.args.self.now c.self.view_is)

pub returns : goal.returns
returns c =
    subst (AreNeighbours c.args.self.now c.args.v) (sym c.get.ensures)
    (neighbours-view c.self.inside.rows c.args.self.now c.self.view_is c.self.invariant.adjacency c.args.v)
