-- Why a certificate gives no claims, and what its text means.
use Rattle.std.proofs.Common.{◌≡◌, ◌≤◌, ◌∙◌, ℕ, List, Option, None, Some, IfSome, Result, Err, Ok, ap, cond, length, subst}
use Rattle.std.proofs.lemmas.Bool.{le-ltb}
use Rattle.kc_text.specs.declared.kind.Kind.TheVariants.{TooLong}
use Rattle.kc_text.specs.declared.limits.TheConstants.Limits.{GRAPH}
use Rattle.kc_text.specs.declared.refusal.Refusal.{Refusal}
use Rattle.kc_claims.specs.Claims.{claims_of}
use Rattle.kc_claims.specs.Tables.{HasRefusedClaim, HoldsClaims}
use Rattle.kc_claims.specs.declared.claim.Claim.{Claim}
use Rattle.kc_claims.specs.declared.table.ClaimTable.{ClaimTable}
use Rattle.kc_cores.specs.CheckEnded.{AreClaimsOf, certificate_meaning}
use Rattle.kc_cores.specs.Endings.{ClaimRefusalAt, HasNoClaims, NoClaimsAt, TellsClaimRefusal, line_of}
use Rattle.kc_cores.specs.declared.CoresStatus.{CoresStatus}
use Rattle.kc_cores.specs.declared.CoresStatus.TheVariants as status
use Rattle.kc_cores.specs.declared.ending.Ending.{Ending}

-- a text that is not too long means what it claims
pub certificate_meaning-is : (text : List ℕ) (result : Result (List Claim) Refusal) → length text ≤ GRAPH.bytes → claims_of text ≡ result
    → certificate_meaning text ≡ result
unfolding certificate_meaning
certificate_meaning-is text result fits is =
    ap (λ b. cond b (Err (record { line = 0; kind = TooLong })) (claims_of text)) (le-ltb GRAPH.bytes (length text) fits) ∙ is

-- a refusal of the whole says why there are no claims
long-claims : (end : CoresStatus) (line name : List ℕ) (refusal : Refusal) (known : Option (List ℕ)) (f f' : ℕ) → ClaimRefusalAt end line name refusal
    → IfSome known (λ all. certificate_meaning all ≡ Err refusal) → f' ≡ f → NoClaimsAt end line name known f f'
long-claims status.Refused line name refusal known f f' h is kept = (refusal, h, is, kept)
long-claims status.NoMemory line name refusal known f f' h is kept = (h, kept)
long-claims _ line name refusal known f f' h is kept = absurd h

pub HasNoClaims-refused : (ending : Ending) (name : List ℕ) (refusal : Refusal) (known : Option (List ℕ)) (f f' : ℕ) → TellsClaimRefusal ending name refusal
    → IfSome known (λ all. certificate_meaning all ≡ Err refusal) → f' ≡ f → HasNoClaims ending name known f f'
HasNoClaims-refused ending name refusal known f f' h is kept = long-claims ending.status (line_of ending) name refusal known f f' h is kept

-- a line of what was read that is refused is so in what is known
pub known-refused : (known : Option (List ℕ)) (refusal : Refusal) → HasRefusedClaim known refusal
    → IfSome known (λ text. certificate_meaning text ≡ Err refusal)
known-refused None refusal h = tt
known-refused (Some all) refusal h =
    subst (λ (t : List ℕ). certificate_meaning t ≡ Err refusal) h.read (certificate_meaning-is h.text (Err refusal) h.few h.means)

-- claims that are held in columns are those of what is known
pub AreClaimsOf-held : (known : Option (List ℕ)) (claims : List Claim) (table : ClaimTable) → HoldsClaims known claims table → AreClaimsOf known claims
AreClaimsOf-held known claims table h = record {
  text = h.text;
  read = h.read;
  means = certificate_meaning-is h.text (Ok claims) h.few h.means;
}
