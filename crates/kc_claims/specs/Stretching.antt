-- How stretches go on with a claim more, and what a claim of one tells.
use Rattle.std.specs.Prelude.{◌≡◌, ◌<◌, ◌+◌, ◌^◌, ℕ, Bool, List, None, Option, Some, false, length, true}
use Rattle.kc_claims.specs.Stretches.{StandsIn}
use Rattle.kc_claims.specs.declared.claim.Claim.{Claim}
use Rattle.kc_claims.specs.declared.stretch.Stretch.{Stretch}

-- the claim that would begin the next stretch stands in the last one too
pub record IsOneWith (last next : Stretch) : Type 0 where
  pub ranked : last.ranked ≡ next.ranked
  pub line : last.line + next.place ≡ next.line + last.place

-- a stretch would begin with this claim behind the others
pub record IsBegunBy (claims : List Claim) (claim : Claim) (stretch : Stretch) : Type 0 where
  pub few : length claims < 2 ^ 32
  pub place : stretch.place ≡ length claims
  pub stands : StandsIn stretch (length claims) claim

-- a rank where it is told
abbrev pub told_rank : Bool → ℕ → Option ℕ
told_rank true rank = Some rank
told_rank false rank = None
