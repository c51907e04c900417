-- Edges that are added to a graph at once.
use Rattle.std.specs.Prelude.{◌≡◌, ◌<◌, ℕ, true, List, All, filter, length, map}
use Rattle.kc_graph.specs.SimpleGraph.{SimpleGraph}
use Rattle.kc_graph.specs.Neighbours.{AreNeighbours}
use Rattle.kc_graph.specs.Plans.{is_applied}
use Rattle.kc_graph.specs.Rows.{pairs_from, row}
use Rattle.kc_graph.specs.declared.update.Update.{Update}
use Rattle.kc_keeper.specs.declared.changes.Changes.{Changes}

-- each update adds its edge
abbrev pub AllAdd : List Update → Type 0
AllAdd updates = All (λ u. u.add ≡ true) updates

-- those of the updates that change the graph where each is made alone
abbrev pub applied_alone : SimpleGraph → List Update → List Update
applied_alone g us = filter (λ u. is_applied u g) us

-- the edge of each update, as the pair of its ends
abbrev pub pairs_of : List Update → List (ℕ × ℕ)
pairs_of us = map (λ u. (u.u, u.v)) us

-- The pairs are the edges from the first `n` vertices to greater ones, vertex by vertex.
pub record AreEdgesFrom (g : SimpleGraph) (n : ℕ) (pairs : List (ℕ × ℕ)) : Type 0 where
  pub rows : List (List ℕ)
  pub count : length rows ≡ n
  pub near : (v : ℕ) → v < n → AreNeighbours g v (row rows v)
  pub pairs_are : pairs ≡ pairs_from 0 rows

-- The changes tell of updates that add, each as if it were made alone.
pub record IsToldAlone (g : SimpleGraph) (us : List Update) (changes : Changes) : Type 0 where
  pub added : changes.added ≡ length (applied_alone g us)
  pub removed : changes.removed ≡ 0
  pub applied : changes.applied.items ≡ applied_alone g us
