-- Claims in stretches: those of one stand on lines that follow one another, and all of them tell a rank or none does.
use Rattle.std.specs.Prelude.{◌≡◌, ◌≤◌, ◌<◌, ◌+◌, ◌^◌, ℕ, List, false, is_some, length, slice_index_or}
use Rattle.kc_claims.specs.Certificates.{claim_at}
use Rattle.kc_claims.specs.declared.claim.Claim.{Claim}
use Rattle.kc_claims.specs.declared.stretch.Stretch.{Stretch}

-- the stretch of this number
abbrev pub stretch_at : List Stretch → ℕ → Stretch
stretch_at stretches k = slice_index_or stretches k (record { place = 0; line = 0; ranked = false })

-- of the stretches this is the one of a place: the last that begins there or before it
pub record IsStretchOf (stretches : List Stretch) (place k : ℕ) : Type 0 where
  pub within : k < length stretches
  pub begun : (stretch_at stretches k).place ≤ place
  pub last : (j : ℕ) → k < j → j < length stretches → place < (stretch_at stretches j).place

-- the claim at a place stands in the stretch: its line is as far behind the first as its place, and it tells a rank where all do
pub record StandsIn (stretch : Stretch) (place : ℕ) (claim : Claim) : Type 0 where
  pub line : claim.line + stretch.place ≡ stretch.line + place
  pub ranked : is_some claim.rank ≡ stretch.ranked

-- each claim stands in the stretch of its place; the stretches begin at claims, each behind those before it, and the first at the first claim
pub record AreStretched (claims : List Claim) (stretches : List Stretch) : Type 0 where
  pub few : length claims ≤ 2 ^ 32
  pub some : 0 < length claims → 0 < length stretches
  pub first : (stretch_at stretches 0).place ≡ 0
  pub within : (k : ℕ) → k < length stretches → (stretch_at stretches k).place < length claims
  pub rise : (j k : ℕ) → j < k → k < length stretches → (stretch_at stretches j).place < (stretch_at stretches k).place
  pub stand : (i k : ℕ) → i < length claims → IsStretchOf stretches i k → StandsIn (stretch_at stretches k) i (claim_at claims i)
