-- Bits that tell the places of ids.
use Rattle.std.specs.Prelude.{◌≡◌, ◌<◌, ◌-◌, ◌/◌, ◌%◌, ◌^◌, ◌==◌, ℕ, List, Option, None, Some, length, slice_index, count_ones, if◌then◌else◌}
use Rattle.kc_graph.specs.Peeling.{at}

-- The place that bits tell an id, if its bit is set. A word has the bits of 64 numbers, and its end is the number of ids up to there: so many
-- less as bits are set from the id's own on is its place.
abbrev pub place_by : List ℕ → List ℕ → ℕ → Option ℕ
place_by words ends id =
    let from_id = slice_index words (id / 64) / 2 ^ (id % 64) in
    if from_id % 2 == 0 then None else Some (slice_index ends (id / 64) - count_ones from_id)

-- each id is told its place, and no other number is told a place
pub record AreBitsOf (ids words ends : List ℕ) : Type 0 where
  pub one_each : length ends ≡ length words
  pub each : (v : ℕ) → v < length ids → place_by words ends (at ids v) ≡ Some v
  pub no_other : (id v : ℕ) → place_by words ends id ≡ Some v → (v < length ids) × (at ids v ≡ id)
