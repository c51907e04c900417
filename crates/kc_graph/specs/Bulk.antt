-- A graph that is given by a list of its edges.
use Rattle.std.specs.Prelude.{ℕ, Bool, not, ◌&&◌, ◌||◌, ◌==◌, List, map, nat_le, nat_lt}
use Rattle.std.specs.List.{filter, list_any}
use Rattle.std.specs.FinSet.{from_list}
use Rattle.kc_graph.specs.SimpleGraph.{SimpleGraph}
use Rattle.kc_graph.specs.Edges.{edge}
use Rattle.kc_graph.specs.declared.bulk.Edge.{Edge}

-- whether an edge has two ends, and not one end twice
abbrev pub is_no_loop : Edge → Bool
is_no_loop e = not (e.u == e.v)

-- the graph with this number of vertices and the listed edges: loops are no edges, and a set has each edge once, however often and in
-- whichever direction it is listed
unfoldable pub graph_with : ℕ → List Edge → SimpleGraph
graph_with vertices edges = record { size = vertices; edges = from_list (map (λ e. edge e.u e.v) (filter is_no_loop edges)) }

-- whether both ends of an edge are vertices
abbrev pub is_within : ℕ → Edge → Bool
is_within vertices e = nat_lt e.u vertices && nat_lt e.v vertices

-- whether an edge that is no loop has these two ends, in either order
abbrev pub is_between : ℕ → ℕ → Edge → Bool
is_between v w e = is_no_loop e && ((v == e.u && w == e.v) || (v == e.v && w == e.u))

-- whether one of the listed edges that are no loops has these two ends, in either order
abbrev pub are_joined : List Edge → ℕ → ℕ → Bool
are_joined edges v w = list_any (is_between v w) edges

-- whether a vertex is one of those from `from` to below `to`
abbrev pub is_from_to : ℕ → ℕ → ℕ → Bool
is_from_to from to v = nat_le from v && nat_lt v to
