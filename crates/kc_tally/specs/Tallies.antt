-- What a list of edges gives each vertex, and what the counts have to be.
use Rattle.std.specs.Prelude.{◌≡◌, ◌≤◌, ◌<◌, ◌^◌, ◌-◌, ◌&&◌, ◌||◌, ◌==◌, ℕ, Bool, List, length, slice_index, count_by, nat_le, min}
use Rattle.kc_graph.specs.declared.bulk.Edge.{Edge}
use Rattle.kc_tally.specs.Keys.{has_lesser_key}

-- whether the edge leads from `v` to an end that passes the test
abbrev pub leads_to : (ℕ → Bool) → ℕ → Edge → Bool
leads_to test v e = (v == e.u && test e.v) || (v == e.v && test e.u)

-- how many of the edges lead from `v` to a vertex whose key is greater
abbrev pub later_count : List ℕ → List ℕ → List Edge → ℕ → ℕ
later_count core rank edges v = count_by (leads_to (has_lesser_key core rank v) v) edges

-- how many of the edges lead from `v` to a vertex whose core number is no less
abbrev pub supporter_count : List ℕ → List Edge → ℕ → ℕ
supporter_count core edges v = count_by (leads_to (λ w. nat_le (slice_index core v) (slice_index core w)) v) edges

-- a count as 32 bits hold it: one that is too great for them stays at their greatest number
abbrev pub capped : ℕ → ℕ
capped count = min count (2 ^ 32 - 1)

-- the lists have what the edges give each vertex
pub record AreTallied (core rank : List ℕ) (edges : List Edge) (later supporters : List ℕ) : Type 0 where
  pub later_each : length later ≡ length core
  pub supporters_each : length supporters ≡ length core
  pub later_counted : (v : ℕ) → v < length core → slice_index later v ≡ capped (later_count core rank edges v)
  pub supporters_counted : (v : ℕ) → v < length core → slice_index supporters v ≡ capped (supporter_count core edges v)

-- each vertex has at most as many later neighbours as its core number, and at least as many supporters
pub record AreBetween (core later supporters : List ℕ) : Type 0 where
  pub later_each : length later ≡ length core
  pub supporters_each : length supporters ≡ length core
  pub few_later : (v : ℕ) → v < length core → slice_index later v ≤ slice_index core v
  pub enough_supporters : (v : ℕ) → v < length core → slice_index core v ≤ slice_index supporters v
