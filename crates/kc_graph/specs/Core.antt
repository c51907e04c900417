-- Core numbers (Seidman 1983).
use Rattle.std.specs.Prelude.{◌≡◌, ◌≢◌, ◌≤◌, ◌<◌, ℕ, List, length, slice_index, All, AllPairs, Contains, max, fold}
use Rattle.kc_graph.specs.SimpleGraph.{SimpleGraph, degree_among}

-- distinct vertices, each of which has at least `k` neighbours among them
pub record HasMinDegree (g : SimpleGraph) (k : ℕ) (members : List ℕ) : Type 0 where
  pub vertices : All (λ v. v < g.size) members
  pub distinct : AllPairs (λ v w. v ≢ w) members
  pub degrees : All (λ v. k ≤ degree_among g members v) members

-- `v` is one of such vertices
abbrev pub IsInCore : SimpleGraph → ℕ → ℕ → Type 0
IsInCore g k v = (members : List ℕ) × HasMinDegree g k members × Contains members v

-- the greatest `k` for which that holds
pub record IsCoreNumber (g : SimpleGraph) (v k : ℕ) : Type 0 where
  pub reached : IsInCore g k v
  pub greatest : (j : ℕ) → IsInCore g j v → j ≤ k

-- each vertex has its core number at its place
pub record AreCoreNumbers (g : SimpleGraph) (core : List ℕ) : Type 0 where
  pub one_each : length core ≡ g.size
  pub each : (v : ℕ) → v < g.size → IsCoreNumber g v (slice_index core v)

-- the greatest of the numbers, or 0 where there is none: of core numbers, the degeneracy of the graph (Matula and Beck 1983)
abbrev pub greatest : List ℕ → ℕ
greatest numbers = fold (λ n c. max n c) 0 numbers
