-- The claims of the places so far are told.
use Rattle.std.proofs.Common.{◌≡◌, List, take}
use Rattle.kc_claims.specs.Tables.{AreTabled}
use Rattle.kc_claims.specs.declared.claim.Claim.{Claim}
use Rattle.kc_claims.proofs.table.ClaimTable.claims.Given as goal

abbrev pub invariant-loop-place : goal.invariant-loop-place
invariant-loop-place l = (claims : List Claim) → AreTabled claims l.self → l.told.items ≡ take l.place claims
