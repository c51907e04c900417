-- The neighbours of a vertex, as a view tells them.
use Rattle.std.specs.Prelude.{◌≡◌, ◌<◌, ℕ, List, true, false, All}
use Rattle.std.specs.List.Sorted.{IsStrictlyIncreasing}
use Rattle.kc_lists.specs.Lists.{member}
use Rattle.kc_graph.specs.declared.used.UsedEdges.{UsedEdges}

-- the list ascends and has vertices alone, and not `w` itself
pub record IsListOf (size w : ℕ) (ws : List ℕ) : Type 0 where
  pub ascends : IsStrictlyIncreasing ws
  pub within : (y : ℕ) → member y ws ≡ true → y < size
  pub others : member w ws ≡ false

-- each of these lists is one of its vertex
unfoldable pub AreLists : ℕ → List UsedEdges → Type 0
AreLists size edges = All (λ e. IsListOf size e.vertex e.neighbours) edges
