-- The part of a vertex is its row, which has its neighbours.
use Rattle.std.proofs.Common.{◌<◌, List, ℕ, length, ap, ap₂, sym, ◌∙◌, subst, arith}
use Rattle.kc_graph.specs.Neighbours.{AreNeighbours}
use Rattle.kc_graph.proofs.RowsLemmas.{size-view, neighbours-view}
use Rattle.kc_flat.specs.Parts.{part, parts_from}
use Rattle.kc_flat.proofs.Cutting.{length-parts, row-part}
use Rattle.kc_flat.proofs.graph.FlatGraph.neighbours.Goals as goal

pub part_of-requires-clause-v_in : goal.part_of-requires-clause-v_in
part_of-requires-clause-v_in c =
    omega (
      arith,
      ap length c.deref-2.ensures.value,
      length-parts 0 c.self.inside.ends.items c.self.inside.block.items,
      size-view (parts_from 0 c.self.inside.ends.items c.self.inside.block.items) c.args.self.now c.self.view_is,
    )

pub returns : goal.returns
returns c =
    let ends : List ℕ = c.self.inside.ends.items in
    let block : List ℕ = c.self.inside.block.items in
    let l : c.args.v < length ends = omega (arith, length-parts 0 ends block, size-view (parts_from 0 ends block) c.args.self.now c.self.view_is) in
    subst (AreNeighbours c.args.self.now c.args.v)
    (row-part ends block c.args.v l
    ∙ sym (c.part_of.ensures ∙ ap₂ (λ (s t : List ℕ). part s t c.args.v) c.deref-2.ensures.value c.deref.ensures.value))
    (neighbours-view (parts_from 0 ends block) c.args.self.now c.self.view_is c.self.invariant.adjacency c.args.v)
