-- Numbers with an order of removal that shows them to be the core numbers (Zhang, Yu, Zhang and Qin 2017).
use Rattle.std.specs.Prelude.{◌≡◌, ◌≢◌, ◌≤◌, ◌<◌, ◌+◌, ◌&&◌, ℕ, List, length, slice_index, All, AllPairs, Contains, count_by, drop, nat_le}
use Rattle.kc_graph.specs.SimpleGraph.{SimpleGraph, adjacent, degree_among}

-- the list has each number below `n` once, and nothing else
pub record Enumerates (n : ℕ) (order : List ℕ) : Type 0 where
  pub below : All (λ v. v < n) order
  pub distinct : AllPairs (λ v w. v ≢ w) order
  pub complete : (v : ℕ) → v < n → Contains order v

-- how many neighbours of `v` among the listed vertices have a number no less than `v` has
abbrev pub degree_as_high : SimpleGraph → List ℕ → List ℕ → ℕ → ℕ
degree_as_high g core vertices v = count_by (λ w. adjacent g v w && nat_le (slice_index core v) (slice_index core w)) vertices

-- the numbers and the order meet the certificate
pub record Certifies (g : SimpleGraph) (core order : List ℕ) : Type 0 where
  pub one_each : length core ≡ g.size
  pub enumerates : Enumerates g.size order
  -- the numbers never fall along the order
  pub rising : AllPairs (λ v w. slice_index core v ≤ slice_index core w) order
  -- each vertex has at most as many later neighbours as its number
  pub few_later : (i : ℕ) → i < length order → degree_among g (drop (i + 1) order) (slice_index order i) ≤ slice_index core (slice_index order i)
  -- each vertex has at least as many neighbours whose number is no less
  pub enough_as_high : (v : ℕ) → v < g.size → slice_index core v ≤ degree_as_high g core order v
