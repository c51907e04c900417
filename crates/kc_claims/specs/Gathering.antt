-- What is kept while claims are gathered from a text that comes in pieces.
use Rattle.std.specs.Prelude.{◌≡◌, ℕ, List, None, Ok, Err, Some, length}
use Rattle.kc_text.specs.Lines.{lines}
use Rattle.kc_text.specs.declared.refusal.Refusal.{Refusal}
use Rattle.kc_claims.specs.Claims.{claims_after}
use Rattle.kc_claims.specs.Tables.{AreTabled}
use Rattle.kc_claims.specs.declared.claim.Claim.{Claim}
use Rattle.kc_claims.specs.declared.gathering.Gathering.{Gathering}

-- none of these lines is refused, and the table has their claims
pub record HasListed (now : Gathering) (done : List (List ℕ)) : Type 0 where
  pub claims : List Claim
  pub means : claims_after 0 done ≡ Ok claims
  pub tabled : AreTabled claims now.table
  pub counted : now.lines ≡ length done

-- these lines were taken: the first that is refused is kept, and where none is, their claims are
pub record HasTakenLines (now : Gathering) (done : List (List ℕ)) : Type 0 where
  pub refused : (refusal : Refusal) → now.refusal ≡ Some refusal → claims_after 0 done ≡ Err refusal
  pub listed : now.refusal ≡ None → HasListed now done

-- the lines of these bytes were taken, from wherever
abbrev pub HasGathered : Gathering → Gathering → List ℕ → Type 0
HasGathered start now text = HasTakenLines now (lines text)
