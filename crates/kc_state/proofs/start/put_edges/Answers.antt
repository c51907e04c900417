-- The lines of the edges at a vertex go on behind those of the vertices before it.
use Rattle.std.proofs.Common.{◌++◌, ◌∙◌, ℕ, List, ap, append_assoc, arith, get_or, sym}
use Rattle.std.specs.List.{flat_map}
use Rattle.kc_lists.proofs.Counting.{member-get_or}
use Rattle.kc_flat.specs.Listing.{ascending_below}
use Rattle.kc_flat.proofs.Listed.{flat_map-next}
use Rattle.kc_graph.specs.Neighbours.{neighbours_of}
use Rattle.kc_graph.proofs.NeighbourLists.{neighbours_are}
use Rattle.kc_state.specs.Texts.{lines_to_greater}
use Rattle.kc_state.proofs.start.put_edges.Goals as goal

pub put_all_greater-requires-clause-others : goal.put_all_greater-requires-clause-others
put_all_greater-requires-clause-others c = λ k d l.
    let ws : List ℕ = c.neighbours.result.now in
    omega (arith, c.neighbours.ensures.within (get_or ws k d) (member-get_or ws k d l), c.requires)

pub loop-v-preserved : goal.loop-v-preserved
loop-v-preserved c =
    let ids : List ℕ = c.args.ids.now in
    let v : ℕ = c.loop-v.v in
    let before : List ℕ = c.args.out.now.items in
    let lines : ℕ → List ℕ = (λ x. lines_to_greater ids x (neighbours_of c.args.graph.now x)) in
    let same = neighbours_are c.args.graph.now v c.neighbours.result.now c.neighbours.ensures in
    c.in_ok-put_all_greater.ensures
    ∙ ap (λ (t : List ℕ). c.loop-v.out.items ++ lines_to_greater ids v t) same
    ∙ ap (λ (t : List ℕ). t ++ lines v) c.loop-v.invariant ∙ append_assoc before (flat_map lines (ascending_below v)) (lines v)
    ∙ ap (λ (t : List ℕ). before ++ t) (sym (flat_map-next lines v))
