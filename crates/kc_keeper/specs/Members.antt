-- The members of a k-core, and those of one level of it (Seidman 1983).
use Rattle.std.specs.Prelude.{ℕ, zero, suc, Bool, List, [], ◌∷◌, ◌++◌, Contains, ◌↔◌, slice_index, if◌then◌else◌}
use Rattle.std.specs.List.Sorted.{IsStrictlyIncreasing}
use Rattle.kc_graph.specs.SimpleGraph.{SimpleGraph}
use Rattle.kc_graph.specs.Core.{IsCoreNumber, IsInCore}

-- all vertices of the k-core and no others, in ascending order
pub record AreCoreMembers (g : SimpleGraph) (k : ℕ) (members : List ℕ) : Type 0 where
  pub ascending : IsStrictlyIncreasing members
  pub exact : (v : ℕ) → Contains members v ↔ IsInCore g k v

-- all vertices of core number `k` and no others, in ascending order: the k-shell
pub record AreLevelMembers (g : SimpleGraph) (k : ℕ) (members : List ℕ) : Type 0 where
  pub ascending : IsStrictlyIncreasing members
  pub exact : (v : ℕ) → Contains members v ↔ IsCoreNumber g v k

-- the places below `n` at which the number passes the test, in ascending order
abbrev pub places_where : (ℕ → Bool) → List ℕ → ℕ → List ℕ
places_where is numbers zero = []
places_where is numbers (suc n) = if is (slice_index numbers n) then places_where is numbers n ++ n ∷ [] else places_where is numbers n
