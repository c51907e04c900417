-- What the text of a certificate claims. Its lines and fields, its comments and its numbers are those of the text of a graph.
use Rattle.std.specs.Prelude.{◌+◌, ◌++◌, ℕ, List, [], ◌∷◌, Option, None, Some, Result, Ok, Err, if◌then◌else◌}
use Rattle.kc_text.specs.Forms.{is_comment, number}
use Rattle.kc_text.specs.Lines.{fields, lines}
use Rattle.kc_text.specs.declared.kind.Kind.{Kind}
use Rattle.kc_text.specs.declared.kind.Kind.TheVariants.{ExtraField, MissingField}
use Rattle.kc_text.specs.declared.refusal.Refusal.{Refusal}
use Rattle.kc_claims.specs.declared.claim.Claim.{Claim}

-- an id, its number and its rank, which are all of the line
abbrev pub whole_claim : ℕ → ℕ → ℕ → Result ℕ Kind → List (List ℕ) → Result Claim Kind
whole_claim line id told (Err kind) rest = Err kind
whole_claim line id told (Ok rank) [] = Ok (record { line = line; id = id; number = told; rank = Some rank })
whole_claim line id told (Ok rank) (extra ∷ rest) = Err ExtraField

-- an id and its number, with the rank behind them if there is one
abbrev pub with_rank : ℕ → ℕ → ℕ → List (List ℕ) → Result Claim Kind
with_rank line id told [] = Ok (record { line = line; id = id; number = told; rank = None })
with_rank line id told (third ∷ rest) = whole_claim line id told (number third) rest

-- an id, and what stands behind it
abbrev pub with_number : ℕ → ℕ → Result ℕ Kind → List (List ℕ) → Result Claim Kind
with_number line id (Err kind) rest = Err kind
with_number line id (Ok told) rest = with_rank line id told rest

-- the first number, and what stands behind it
abbrev pub with_id : ℕ → Result ℕ Kind → List (List ℕ) → Result Claim Kind
with_id line (Err kind) rest = Err kind
with_id line (Ok id) [] = Err MissingField
with_id line (Ok id) (second ∷ rest) = with_number line id (number second) rest

-- two numbers or three, and nothing else; or the first that is wrong from the left
abbrev pub claim_form : ℕ → List (List ℕ) → Result Claim Kind
claim_form line [] = Err MissingField
claim_form line (first ∷ rest) = with_id line (number first) rest

-- a claim that there is
abbrev pub some_claim : Result Claim Kind → Result (Option Claim) Kind
some_claim (Ok claim) = Ok (Some claim)
some_claim (Err kind) = Err kind

-- what a line with this number and these fields claims
abbrev pub claim_in : ℕ → List (List ℕ) → Result (Option Claim) Kind
claim_in line [] = Ok None
claim_in line (first ∷ rest) = if is_comment first then Ok None else some_claim (claim_form line (first ∷ rest))

-- claims in front of others, if these are not refused
abbrev pub behind_claims : List Claim → Result (List Claim) Refusal → Result (List Claim) Refusal
behind_claims front (Ok claims) = Ok (front ++ claims)
behind_claims front (Err refusal) = Err refusal

-- what a line claims, in front of what the others do; or it is refused
abbrev pub claims_with : ℕ → Result (Option Claim) Kind → Result (List Claim) Refusal → Result (List Claim) Refusal
claims_with line (Err kind) rest = Err (record { line = line; kind = kind })
claims_with line (Ok None) rest = rest
claims_with line (Ok (Some claim)) rest = behind_claims (claim ∷ []) rest

-- what lines claim, behind so many others
abbrev pub claims_after : ℕ → List (List ℕ) → Result (List Claim) Refusal
claims_after done [] = Ok []
claims_after done (line ∷ rest) = claims_with (done + 1) (claim_in (done + 1) (fields line)) (claims_after (done + 1) rest)

-- the claims of a text in their order, or the first line that is refused
unfoldable pub claims_of : List ℕ → Result (List Claim) Refusal
claims_of text = claims_after 0 (lines text)
