-- Claims of lines that are read one after another.
use Rattle.std.proofs.Common.{◌≡◌, ◌+◌, ◌++◌, ◌∙◌, ℕ, List, [], ◌∷◌, Result, Ok, Err, Option, None, Some, ap, append_assoc, append-nil, refl, sym}
use Rattle.std.specs.Option.{option_to_list}
use Rattle.kc_text.specs.Lines.{fields, lines}
use Rattle.kc_text.specs.declared.kind.Kind.{Kind}
use Rattle.kc_text.specs.declared.refusal.Refusal.{Refusal}
use Rattle.kc_claims.specs.Claims.{behind_claims, claim_in, claims_after, claims_of, claims_with}
use Rattle.kc_claims.specs.declared.claim.Claim.{Claim}

-- what a line claims, behind others, is in front of the rest
pub behind_claims-put : (line : ℕ) (front : List Claim) (found : Option Claim) (rest : Result (List Claim) Refusal)
    → behind_claims (front ++ option_to_list found) rest ≡ behind_claims front (claims_with line (Ok found) rest)
behind_claims-put line front None rest = ap (λ (claims : List Claim). behind_claims claims rest) (append-nil front)
behind_claims-put line front (Some claim) (Ok claims) = ap Ok (append_assoc front (claim ∷ []) claims)
behind_claims-put line front (Some claim) (Err refusal) = refl

-- what the lines of a text claim, by its first line
pub claims_after-first : (done : ℕ) (text first others : List ℕ) (says : Result (Option Claim) Kind) → lines text ≡ first ∷ lines others
    → says ≡ claim_in (done + 1) (fields first)
    → claims_after done (lines text) ≡ claims_with (done + 1) says (claims_after (done + 1) (lines others))
claims_after-first done text first others says cut is =
    ap (claims_after done) cut ∙ ap (λ s. claims_with (done + 1) s (claims_after (done + 1) (lines others))) (sym is)

-- what a text claims, once all its lines are read
pub claims_of-is : (text : List ℕ) (result : Result (List Claim) Refusal) → claims_after 0 (lines text) ≡ result → claims_of text ≡ result
unfolding claims_of
claims_of-is text result is = is
