-- The layers in which the vertices of a level are taken (Hébert-Dufresne, Grochow and Allard 2016).
use Rattle.std.specs.Prelude.{◌≡◌, ◌≤◌, ◌<◌, ℕ, Bool, ◌&&◌, ◌||◌, ◌==◌, List, length, nat_le, nat_lt, slice_index, count_by}
use Rattle.kc_lists.specs.Lists.{below}
use Rattle.kc_graph.specs.SimpleGraph.{SimpleGraph, adjacent}

-- whether `w` is above `level`, or on it and not taken before `step`: the rank of a vertex is the step in which it is taken on its level
abbrev pub is_left_at : List ℕ → List ℕ → ℕ → ℕ → ℕ → Bool
is_left_at core rank level step w =
    nat_lt level (slice_index core w) || (level == slice_index core w && nat_le step (slice_index rank w))

-- how many neighbours of `v` are on a higher level, or on its level and not taken before `step`
abbrev pub left_at : SimpleGraph → List ℕ → List ℕ → ℕ → ℕ → ℕ
left_at g core rank step v = count_by (λ w. adjacent g v w && is_left_at core rank (slice_index core v) step w) (below g.size)

-- At each step, from 0 on, all vertices of a level are taken that have at most as many such neighbours as the level.
pub record AreLayers (g : SimpleGraph) (core rank : List ℕ) : Type 0 where
  pub one_each : length rank ≡ g.size
  pub taken : (v : ℕ) → v < g.size → left_at g core rank (slice_index rank v) v ≤ slice_index core v
  pub not_before : (v step : ℕ) → v < g.size → step < slice_index rank v → slice_index core v < left_at g core rank step v
