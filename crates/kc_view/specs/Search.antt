-- A state after its graph was updated, as a search for the vertices that move sees it.
use Rattle.std.specs.Prelude.{◌≡◌, ◌<◌, ℕ, Bool, true, ◌&&◌, count_by, slice_index, nat_lt, nat_eq}
use Rattle.kc_lists.specs.Lists.{below}
use Rattle.kc_graph.specs.SimpleGraph.{SimpleGraph, adjacent}
use Rattle.kc_graph.specs.Lawful.{Ranked}
use Rattle.kc_cert.specs.Ranks.{rank_in}

-- The graph after the update; core numbers and ranks in the order before. `level` is the lesser core number of the two ends.
pub record Search : Type 0 where
  pub size : ℕ
  pub adj : ℕ → ℕ → Bool
  pub core : ℕ → ℕ
  pub rank : ℕ → ℕ
  pub level : ℕ

-- the search in a state whose graph became `after`
abbrev pub search_in : SimpleGraph → Ranked → ℕ → Search
search_in after s level = record { size = s.graph.size; adj = adjacent after; core = slice_index s.core; rank = rank_in s.order; level = level }

-- how many neighbours of `z` pass
abbrev pub among : Search → ℕ → (ℕ → Bool) → ℕ
among s z test = count_by (λ y. s.adj z y && test y) (below s.size)

-- whether `y` has the level's core number, or a greater one
abbrev pub on_level : Search → ℕ → Bool
on_level s y = nat_eq (s.core y) s.level

-- whether `y` has a greater core number than the level's
abbrev pub above : Search → ℕ → Bool
above s y = nat_lt s.level (s.core y)

-- whether `y` stands after `z`
abbrev pub after : Search → ℕ → ℕ → Bool
after s z y = nat_lt (s.rank z) (s.rank y)

-- a vertex of the level
pub record OnLevel (s : Search) (x : ℕ) : Type 0 where
  pub here : x < s.size
  pub level : s.core x ≡ s.level

-- `y` is the root, or walks from it reach `y`, each step of which goes to a later neighbour of the level
pub data Forward (s : Search) (root : ℕ) : ℕ → Type 0 where
  at_root : Forward s root root
  further : (x y : ℕ) → Forward s root x → OnLevel s y → s.adj x y ≡ true → s.rank x < s.rank y → Forward s root y
