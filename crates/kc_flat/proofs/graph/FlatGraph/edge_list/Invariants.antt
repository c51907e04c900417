-- The edges of the vertices so far are there.
use Rattle.std.proofs.Common.{◌≡◌}
use Rattle.std.specs.List.{flat_map}
use Rattle.kc_graph.specs.Neighbours.{edges_to_greater, neighbours_of}
use Rattle.kc_flat.specs.Listing.{ascending_below}
use Rattle.kc_flat.proofs.graph.FlatGraph.edge_list.Given as goal

abbrev pub invariant-loop-v : goal.invariant-loop-v
invariant-loop-v l = l.edges.items ≡ flat_map (λ v. edges_to_greater v (neighbours_of l.self v)) (ascending_below l.v)
