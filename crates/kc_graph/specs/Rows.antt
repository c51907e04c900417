-- A graph by the neighbours of each vertex, as the code keeps it.
use Rattle.std.specs.Prelude.{refl, ◌≡◌, ◌<◌, ◌+◌, ◌^◌, sum_by, ℕ, true, false, List, [], ◌∷◌, ◌++◌, length, map, nat_lt, slice_index, slice_index_or}
use Rattle.std.specs.Prelude.{slice_set, ◌≤◌, Result, MatchResult, ◌||◌, ◌&&◌, not, ◌==◌}
use Rattle.std.specs.List.{filter}
use Rattle.std.specs.List.Sorted.{IsStrictlyIncreasing}
use Rattle.std.specs.FinSet.{FinSet, from_list}
use Rattle.std.specs.Coded.{Coded, code_by, coded×, coded_ℕ}
use Rattle.std.specs.FinSet as set
use Rattle.std.specs.declared.vec.Vec.{Vec}
use Rattle.std.specs.declared.alloc.Global.{Global}
use Rattle.kc_lists.specs.Lists.{member}
use Rattle.kc_graph.specs.SimpleGraph.{SimpleGraph, pair_cmp}

-- the neighbours of a vertex
abbrev pub row : List (List ℕ) → ℕ → List ℕ
row rows v = slice_index_or rows v []

-- the rows, without where they lie in memory
abbrev pub lists : List (Vec ℕ Global) → List (List ℕ)
lists rows = map (λ r. r.items) rows

-- the edges whose lesser end is `first` or a later vertex, where the rows begin with that of `first`
abbrev pub pairs_from : ℕ → List (List ℕ) → List (ℕ × ℕ)
pairs_from first [] = []
pairs_from first (r ∷ rows) = map (λ w. (first, w)) (filter (nat_lt first) r) ++ pairs_from (first + 1) rows

-- the graph with a vertex for each row, and an edge to each greater vertex that the row names
unfoldable pub graph_of : List (List ℕ) → SimpleGraph
graph_of rows = record { size = length rows; edges = from_list (pairs_from 0 rows) }

-- each row ascends and names other vertices, and each edge stands in both rows
pub record IsAdjacency (rows : List (List ℕ)) : Type 0 where
  pub ascends : (v : ℕ) → IsStrictlyIncreasing (row rows v)
  pub within : (v w : ℕ) → member w (row rows v) ≡ true → w < length rows
  pub irreflexive : (v : ℕ) → member v (row rows v) ≡ false
  pub symmetric : (v w : ℕ) → member w (row rows v) ≡ member v (row rows w)

-- the rows of a graph with this number of edges, each of which stands in two rows
pub record HoldsEdges (rows : List (List ℕ)) (edges : ℕ) : Type 0 where
  pub adjacency : IsAdjacency rows
  pub few : length rows < 2 ^ 32
  pub counted : edges ≡ set.len (graph_of rows).edges
  pub twice : edges + edges ≡ sum_by length rows

-- the code by which the logic stores a graph: its size and its set of edges
abbrev pub code_of_graph : Coded SimpleGraph
code_of_graph =
    code_by (ℕ × FinSet pair_cmp) (coded× coded_ℕ (set.code (coded× coded_ℕ coded_ℕ))) (λ g. (g.size, g.edges))
    (λ p. record { size = p.0; edges = p.1 }) (λ _. refl)

-- where the number stands in an ascending row, or the place between the lesser and the greater ones
abbrev pub IsPlace : List ℕ → ℕ → Result ℕ ℕ → Type 0
IsPlace ws w result = MatchResult result (λ i. (i < length ws) × (slice_index ws i ≡ w))
    (λ i. (i ≤ length ws) × ((k : ℕ) → k < i → slice_index ws k < w) × ((k : ℕ) → i ≤ k → k < length ws → w < slice_index ws k))

-- the row with one more number, in its place
pub record Inserted (old new : List ℕ) (w : ℕ) : Type 0 where
  pub longer : length new ≡ length old + 1
  pub gained : (b : ℕ) → member b new ≡ (member b old || b == w)
  pub ascends : IsStrictlyIncreasing new

-- the row without one of its numbers
pub record Deleted (old new : List ℕ) (w : ℕ) : Type 0 where
  pub shorter : length new + 1 ≡ length old
  pub kept : (b : ℕ) → member b new ≡ (member b old && not (b == w))
  pub ascends : IsStrictlyIncreasing new

-- two rows with one more number each
pub record BothInserted (old new : List (List ℕ)) (u v : ℕ) : Type 0 where
  pub first : List ℕ
  pub second : List ℕ
  pub rows : new ≡ slice_set (slice_set old u first) v second
  pub at_first : Inserted (row old u) first v
  pub at_second : Inserted (row old v) second u

-- two rows with one number less each
pub record BothDeleted (old new : List (List ℕ)) (u v : ℕ) : Type 0 where
  pub first : List ℕ
  pub second : List ℕ
  pub rows : new ≡ slice_set (slice_set old u first) v second
  pub at_first : Deleted (row old u) first v
  pub at_second : Deleted (row old v) second u
