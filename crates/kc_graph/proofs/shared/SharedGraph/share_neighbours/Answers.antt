-- The row of a vertex is the list of its neighbours.
use Rattle.std.proofs.Common.{◌<◌, ◌∙◌, ℕ, List, length, arith, sym, subst}
use Rattle.std.proofs.lemmas.Result.{IfOk-weaker}
use Rattle.kc_graph.specs.Neighbours.{AreNeighbours}
use Rattle.kc_graph.proofs.NeighbourLists.{neighbours_are}
use Rattle.kc_graph.proofs.RowsLemmas.{size-view, neighbours-view}
use Rattle.kc_graph.proofs.SharedLists.{row-here}
use Rattle.kc_graph.proofs.shared.SharedGraph.share_neighbours.Goals as goal

pub index-requires : goal.index-requires
index-requires c = omega (arith, size-view c.self.inside.rows.items c.args.self.now c.self.view_is)

pub returns : goal.returns
returns c =
    let rows : List (List ℕ) = c.self.inside.rows.items in
    let l : c.args.v < length rows = omega (arith, size-view rows c.args.self.now c.self.view_is) in
    let near : AreNeighbours c.args.self.now c.args.v c.index.result.now =
    subst (AreNeighbours c.args.self.now c.args.v) (row-here rows c.args.v c.index.result.now l c.index.ensures)
    (neighbours-view rows c.args.self.now c.self.view_is c.self.invariant.adjacency c.args.v) in record {
      list = IfOk-weaker c.share.result _ _ (λ list e. e ∙ neighbours_are c.args.self.now c.args.v c.index.result.now near) c.share.ensures;
      near = IfOk-weaker c.share.result _ _ (λ list e. subst (AreNeighbours c.args.self.now c.args.v) (sym e) near) c.share.ensures;
    }
