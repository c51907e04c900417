-- The lines of the edges at the vertices so far were put.
use Rattle.std.proofs.Common.{◌≡◌, ◌++◌}
use Rattle.std.specs.List.{flat_map}
use Rattle.kc_flat.specs.Listing.{ascending_below}
use Rattle.kc_graph.specs.Neighbours.{neighbours_of}
use Rattle.kc_state.specs.Texts.{lines_to_greater}
use Rattle.kc_state.proofs.start.put_edges.Given as goal

abbrev pub invariant-loop-v : goal.invariant-loop-v
invariant-loop-v l = l.out.items ≡ l.fn.out.items ++ flat_map (λ v. lines_to_greater l.ids v (neighbours_of l.graph v)) (ascending_below l.v)
