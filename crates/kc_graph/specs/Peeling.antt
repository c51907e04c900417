-- What the decomposition keeps true while it takes one vertex after another.
use Rattle.std.specs.Prelude.{◌≡◌, ◌≤◌, ◌<◌, ◌+◌, ℕ, min, max, true, false, not, ◌&&◌, List, [], ◌∷◌, ◌++◌, length, slice_index, slice_set, drop}
use Rattle.std.specs.Prelude.{take, filter, AllPairs, count_by, nat_le, nat_lt, nat_eq, sum, if◌then◌else◌}
use Rattle.kc_lists.specs.Lists.{member, Distinct, below}
use Rattle.kc_graph.specs.SimpleGraph.{SimpleGraph, adjacent}
use Rattle.kc_graph.specs.Rows.{row}

-- the number of a vertex
abbrev pub at : List ℕ → ℕ → ℕ
at xs v = slice_index xs v

-- how many neighbours of `v` are not taken
abbrev pub remaining : SimpleGraph → List ℕ → ℕ → ℕ
remaining g taken v = count_by (λ w. adjacent g v w && not (member w taken)) (below g.size)

-- how many neighbours of `v` have a number no less than `k`
abbrev pub as_high : SimpleGraph → List ℕ → ℕ → ℕ → ℕ
as_high g core k v = count_by (λ w. adjacent g v w && nat_le k (at core w)) (below g.size)

-- Each taken vertex had at most as many neighbours left as its number, which is at most `level`.
-- The number of each other one is at least `level`.
pub record IsPeeledTo (g : SimpleGraph) (level : ℕ) (core taken : List ℕ) : Type 0 where
  pub one_each : length core ≡ g.size
  pub within : (v : ℕ) → member v taken ≡ true → v < g.size
  pub distinct : Distinct taken
  pub done : (v : ℕ) → member v taken ≡ true → at core v ≤ level
  pub open_ : (v : ℕ) → v < g.size → member v taken ≡ false → level ≤ at core v
  pub rising : AllPairs (λ v w. at core v ≤ at core w) taken
  pub few : (i : ℕ) → i < length taken → remaining g (take (i + 1) taken) (at taken i) ≤ at core (at taken i)
  pub enough : (v : ℕ) → v < g.size → min (at core v) level ≤ as_high g core (min (at core v) level) v

-- The number of a vertex that is left is how many neighbours it has left, or `level` where that is more.
abbrev pub LeftAreCounted : SimpleGraph → ℕ → List ℕ → List ℕ → Type 0
LeftAreCounted g level core taken = (v : ℕ) → v < g.size → member v taken ≡ false → at core v ≡ max (remaining g taken v) level

-- A vertex that is left stands in the bucket of its number, and a taken one does not. No vertex stands twice in a bucket, or in one
-- below its number.
pub record Filed (core taken : List ℕ) (buckets : List (List ℕ)) : Type 0 where
  pub waits : (v : ℕ) → v < length core → member v taken ≡ false → member v (row buckets (at core v)) ≡ true
  pub gone : (v : ℕ) → member v taken ≡ true → member v (row buckets (at core v)) ≡ false
  pub fits : (b v : ℕ) → member v (row buckets b) ≡ true → (v < length core) × (at core v ≤ b)
  pub once : (b : ℕ) → Distinct (row buckets b)

-- vertices have been taken up to a level
pub record Peels (g : SimpleGraph) (level : ℕ) (core taken : List ℕ) (buckets : List (List ℕ)) : Type 0 where
  pub peeled : IsPeeledTo g level core taken
  pub exact : LeftAreCounted g level core taken
  pub filed : Filed core taken buckets

-- the buckets, without the first `turn` vertices of one of them
abbrev pub from_turn : ℕ → ℕ → List (List ℕ) → List (List ℕ)
from_turn level turn rows = slice_set rows level (drop turn (row rows level))

-- `v`, whose number is `level`, has come out of its bucket, and is about to be taken.
pub record IsAboutToTake (g : SimpleGraph) (level v : ℕ) (core taken : List ℕ) (buckets : List (List ℕ)) : Type 0 where
  pub peeled : IsPeeledTo g level core taken
  pub exact : LeftAreCounted g level core taken
  pub filed : Filed core (taken ++ v ∷ []) buckets
  pub vertex : v < g.size
  pub left : member v taken ≡ false
  pub here : at core v ≡ level

-- a bound on the turns that are left at a level
abbrev pub work : ℕ → List ℕ → List (List ℕ) → ℕ
work level core buckets = sum core + length (row buckets level)

-- Each of `ws` with a number above `level` loses one, and stands in the bucket of its new number too.
pub record Lowered (level : ℕ) (ws core : List ℕ) (buckets : List (List ℕ)) (core' : List ℕ) (buckets' : List (List ℕ)) : Type 0 where
  pub one_each : length core' ≡ length core
  pub one_bucket : length buckets' ≡ length buckets
  pub lowered : (u : ℕ) → at core u ≡ at core' u + (if member u ws && nat_lt level (at core u) then 1 else 0)
  pub filed : (b : ℕ) → row buckets' b ≡ row buckets b ++ filter (λ w. nat_lt level (at core w) && nat_eq (at core w) (b + 1)) ws
  pub less_work : work level core' buckets' ≤ work level core buckets

-- Each of the first `n` vertices stands once in the bucket of its degree, and no other does.
pub record Files (degrees : List ℕ) (n : ℕ) (buckets : List (List ℕ)) : Type 0 where
  pub waits : (v : ℕ) → v < n → member v (row buckets (at degrees v)) ≡ true
  pub fits : (b v : ℕ) → member v (row buckets b) ≡ true → (v < n) × (at degrees v ≡ b)
  pub once : (b : ℕ) → Distinct (row buckets b)
