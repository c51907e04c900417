-- The neighbours of a vertex as a list.
use Rattle.std.specs.Prelude.{◌≡◌, ◌<◌, ℕ, List, true, filter, map, nat_lt, reverse}
use Rattle.std.specs.List.Sorted.{IsStrictlyIncreasing}
use Rattle.kc_lists.specs.Lists.{member, below}
use Rattle.kc_graph.specs.SimpleGraph.{SimpleGraph, adjacent}

-- exactly the neighbours of `v`, in ascending order
pub record AreNeighbours (g : SimpleGraph) (v : ℕ) (ws : List ℕ) : Type 0 where
  pub ascending : IsStrictlyIncreasing ws
  pub within : (w : ℕ) → member w ws ≡ true → w < g.size
  pub exact : (w : ℕ) → member w ws ≡ adjacent g v w

-- the neighbours of `v`, in ascending order
abbrev pub neighbours_of : SimpleGraph → ℕ → List ℕ
neighbours_of g v = reverse (filter (adjacent g v) (below g.size))

-- the edges from a vertex to those of these that are greater
abbrev pub edges_to_greater : ℕ → List ℕ → List (ℕ × ℕ)
edges_to_greater v ws = map (λ w. (v, w)) (filter (nat_lt v) ws)
