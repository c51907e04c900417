-- A search that goes on from the vertices that it has reached, each of them by an arc from one that it reached before.
use Rattle.std.specs.Prelude.{◌≡◌, ◌≢◌, ◌<◌, ℕ, Bool, true, false, List, length, slice_index, slice_index_or}
use Rattle.kc_lists.specs.Lists.{Distinct, member}
use Rattle.kc_order.specs.Standing.{StandsBefore}
use Rattle.kc_topo.specs.Arcs.{has_arc}

-- The vertices below `size` that were reached, in the order in which they were, and for each the place of the one from which it was.
pub record Trail : Type 0 where
  pub vertices : List ℕ
  pub parents : List ℕ
  pub size : ℕ

-- a mark for each vertex says whether it was reached
pub record IsMarked (t : Trail) (marks : List Bool) : Type 0 where
  pub distinct : Distinct t.vertices
  pub within : (v : ℕ) → member v t.vertices ≡ true → v < t.size
  pub one_each : length t.parents ≡ length t.vertices
  pub long : length marks ≡ t.size
  pub marks_are : (v : ℕ) → slice_index_or marks v false ≡ member v t.vertices

-- It began with b, each other vertex was reached by an arc from one before it, and all of them stand before a.
pub record IsTrail (arcs : List (ℕ × ℕ)) (list : List ℕ) (a b : ℕ) (t : Trail) : Type 0 where
  pub some : 0 < length t.vertices
  pub one_each : length t.parents ≡ length t.vertices
  pub first : slice_index t.vertices 0 ≡ b
  pub back : (k : ℕ) → 0 < k → k < length t.vertices → slice_index t.parents k < k
  pub arcs_are : (k : ℕ) → 0 < k → k < length t.vertices → has_arc arcs (slice_index t.vertices (slice_index t.parents k)) (slice_index t.vertices k) ≡ true
  pub before : (v : ℕ) → member v t.vertices ≡ true → StandsBefore v a list

-- a vertex is not a, and was reached where it stands before a
pub record IsSettled (list : List ℕ) (a : ℕ) (t : Trail) (w : ℕ) : Type 0 where
  pub other : w ≢ a
  pub reached : StandsBefore w a list → member w t.vertices ≡ true

-- each arc from one of the first vertices leads to such a vertex
abbrev pub AreSettled : List (ℕ × ℕ) → List ℕ → ℕ → Trail → ℕ → Type 0
AreSettled arcs list a t count = (k : ℕ) → k < count → (w : ℕ) → has_arc arcs (slice_index t.vertices k) w ≡ true → IsSettled list a t w
