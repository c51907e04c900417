-- A graph with more vertices, which have no edges yet.
use Rattle.std.specs.Prelude.{◌≡◌, ◌<◌, ◌+◌, ◌-◌, ℕ, zero, suc, true, [], ◌∷◌, ◌++◌}
use Rattle.kc_graph.specs.SimpleGraph.{SimpleGraph, adjacent}
use Rattle.kc_graph.specs.Lawful.{Ranked}

-- the same edges among so many vertices
abbrev pub with_vertices : ℕ → SimpleGraph → SimpleGraph
with_vertices n g = record { size = n; edges = g.edges }

-- each end of an edge is a vertex
abbrev pub HasItsEnds : SimpleGraph → Type 0
HasItsEnds g = (v w : ℕ) → adjacent g v w ≡ true → v < g.size

-- one vertex more: it has core number 0, and stands first in the order
abbrev pub with_one_more : Ranked → Ranked
with_one_more s = record { graph = with_vertices (s.graph.size + 1) s.graph; core = s.core ++ 0 ∷ []; order = s.graph.size ∷ s.order }

-- so many vertices more, one after the other
abbrev pub with_more : ℕ → Ranked → Ranked
with_more zero s = s
with_more (suc count) s = with_one_more (with_more count s)

-- with more vertices, until there are so many in all
abbrev pub grown : ℕ → Ranked → Ranked
grown vertices s = with_more (vertices - s.graph.size) s
