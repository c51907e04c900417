-- What is written of a certificate.
use Rattle.std.specs.Prelude.{ℕ, List, [], ◌∷◌, ◌++◌, codes}
use Rattle.std.specs.Fmt.{decimal}
use Rattle.kc_text.specs.declared.kind.Kind.{Kind}
use Rattle.kc_text.specs.declared.kind.Kind.TheVariants.{NotANumber, MissingField, ExtraField, NumberTooLarge}
use Rattle.kc_text.specs.declared.refusal.Refusal.{Refusal}
use Rattle.kc_claims.specs.Certificates.{id_of}
use Rattle.kc_claims.specs.declared.claim.Claim.{Claim}
use Rattle.kc_claims.specs.declared.fault.ClaimFault.{ClaimFault}
use Rattle.kc_claims.specs.declared.fault.ClaimFault.TheVariants.{Unknown, Repeated, Missing, ManyLater, FewSupporters}
use Rattle.kc_cores.specs.Sentences.{at_line}

-- `yes`
abbrev pub yes_line : List ℕ
yes_line = codes "yes\n"

-- `no`, a tab, and the id that is at fault
abbrev pub no_line : ClaimFault → List ℕ
no_line fault = codes "no\t" ++ (decimal (id_of fault) ++ 10 ∷ [])

-- `cores: NAME: line 7: id 5`
abbrev pub at_claim : List ℕ → Claim → List ℕ → List ℕ
at_claim name claim rest = codes "cores: " ++ (name ++ (codes ": line " ++ (decimal claim.line ++ (codes ": id " ++ (decimal claim.id ++ rest)))))

-- what is wrong with the certificate of this name, with the line and the id, and how it is mended where that is told
abbrev pub fault_line : List ℕ → ClaimFault → List ℕ
fault_line name (Unknown claim) = at_claim name claim (codes " is not in the graph; remove the line or take the graph that it was made for\n")
fault_line name (Repeated claim) = at_claim name claim (codes " is told twice; keep one line of it\n")
fault_line name (Missing id) =
    codes "cores: " ++ (name ++ (codes ": id " ++ (decimal id ++ codes " of the graph has no line; add it or write the certificate anew with cores order\n")))
fault_line name (ManyLater claim count) =
    at_claim name claim
    (codes " is told core number " ++ (decimal claim.number ++ (codes ", but has more neighbours after it: " ++ (decimal count
    ++ codes "; write it by cores order\n"))))
fault_line name (FewSupporters claim count) =
    at_claim name claim
    (codes " is told core number " ++ (decimal claim.number ++ (codes ", but has fewer neighbours told as much or more: " ++ (decimal count ++ codes "\n"))))

-- what was found wrong with a line of a certificate, and how it is mended
abbrev pub claim_sentence : Kind → List ℕ
claim_sentence NotANumber = codes "a field is not a whole number; write an id and its core number, or begin the line with # if it is a comment"
claim_sentence MissingField = codes "the core number is missing; write an id and its core number with a blank or a tab between them"
claim_sentence ExtraField = codes "there are more than three numbers; keep the id, its core number and its layer"
claim_sentence NumberTooLarge = codes "a number is greater than 4294967295; write a smaller one"
claim_sentence _ = codes "there are more bytes than cores takes; remove comments"

-- `line 7: SENTENCE`
abbrev pub claim_refusal : Refusal → List ℕ
claim_refusal refusal = at_line refusal.line ++ (codes ": " ++ (claim_sentence refusal.kind ++ 10 ∷ []))

-- `cores: NAME: line 7: SENTENCE`
abbrev pub claim_refused_line : List ℕ → Refusal → List ℕ
claim_refused_line name refusal = codes "cores: " ++ (name ++ (codes ": " ++ claim_refusal refusal))
