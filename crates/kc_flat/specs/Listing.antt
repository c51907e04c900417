-- The edges of a graph as a list.
use Rattle.std.specs.Prelude.{ℕ, List, reverse}
use Rattle.std.specs.List.{flat_map}
use Rattle.kc_lists.specs.Lists.{below}
use Rattle.kc_graph.specs.Neighbours.{edges_to_greater, neighbours_of}
use Rattle.kc_graph.specs.SimpleGraph.{SimpleGraph}

-- the numbers below `n`, ascending: of a graph with so many vertices, the vertices
abbrev pub ascending_below : ℕ → List ℕ
ascending_below n = reverse (below n)

-- the edges of a graph, each once with its lesser end first, ascending by this end and then by the other one
abbrev pub edge_list : SimpleGraph → List (ℕ × ℕ)
edge_list g = flat_map (λ v. edges_to_greater v (neighbours_of g v)) (ascending_below g.size)
