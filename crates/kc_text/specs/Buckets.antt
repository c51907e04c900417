-- Ranges of equal width, and where the ids of each begin.
use Rattle.std.specs.Prelude.{◌≡◌, ◌<◌, ◌≤◌, ◌+◌, ◌*◌, ℕ, List, All, length, take, drop, slice_index}
use Rattle.std.specs.List.Sorted.{IsPartitionPoint}

-- so many ids stand before a multiple of the width: those that are below it
pub record IsBegin (ids : List ℕ) (bound begin : ℕ) : Type 0 where
  pub within : begin ≤ length ids
  pub parted : IsPartitionPoint (λ id. id < bound) (λ id. bound ≤ id) ids begin

-- how many ids stand before each range; the ranges reach beyond the greatest id
pub record AreBuckets (ids : List ℕ) (width : ℕ) (begins : List ℕ) : Type 0 where
  pub some : 0 < width
  pub reach : All (λ id. id < length ids * width) ids
  pub whole : length begins ≡ length ids + 1
  pub each : (k : ℕ) → k < length begins → IsBegin ids (k * width) (slice_index begins k)

-- a part of the ids, with how many stand before it, outside of which the id stands nowhere
pub record IsRangeOf (ids : List ℕ) (id before : ℕ) (range : List ℕ) : Type 0 where
  pub part : range ≡ take (length range) (drop before ids)
  pub within : before + length range ≤ length ids
  pub all : (i : ℕ) → i < length ids → slice_index ids i ≡ id → (before ≤ i) × (i < before + length range)
