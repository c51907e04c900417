-- What is kept while lines of a stream are looked at that are to ascend.
use Rattle.std.specs.Prelude.{◌≡◌, ◌<◌, ◌⊎◌, ◌++◌, ℕ, List, None, Option, length}
use Rattle.kc_graph.specs.Peeling.{at}
use Rattle.kc_text.specs.Forms.{all_said}
use Rattle.kc_text.specs.Lines.{EndsLine}
use Rattle.kc_text.specs.declared.limits.TheConstants.Limits.{GRAPH}
use Rattle.kc_claims.specs.Certificates.{claim_at}
use Rattle.kc_claims.specs.Feeding.{IsFedWith}
use Rattle.kc_claims.specs.LineFaults.{first_line_fault, last_pair}
use Rattle.kc_claims.specs.Sweeping.{Agrees, HasBegunFor, HasSwept, IsFirstMiscount, KeepsTold}
use Rattle.kc_claims.specs.declared.claim.Claim.{Claim}
use Rattle.kc_claims.specs.declared.fault.ClaimFault.{ClaimFault}
use Rattle.kc_claims.specs.declared.fault.ClaimFault.TheVariants.{Unknown, Repeated, Missing, ManyLater, FewSupporters}
use Rattle.kc_claims.specs.declared.insisting.Insisting.{Insisting}
use Rattle.kc_claims.specs.declared.sweep.Sweep.{Sweep}

-- No line of these bytes is wrong, which came behind others that had been swept. Their edges were counted too, and so were their lines.
pub record HasFollowed (start now : Insisting) (text : List ℕ) : Type 0 where
  pub begun : (first : Sweep) × (earlier : List ℕ) × EndsLine earlier × HasSwept first start.sweep earlier
  pub swept : (first : Sweep) (earlier : List ℕ) → EndsLine earlier → HasSwept first start.sweep earlier
      → HasSwept first now.sweep (earlier ++ text)
  pub lines : now.lines ≡ length (all_said text)
  pub last : now.last ≡ last_pair start.last (all_said text)

-- These bytes were looked at: the first line of them that is wrong is kept, and where none is they were followed. What vertices are told stays.
pub record HasInsisted (start now : Insisting) (text : List ℕ) : Type 0 where
  pub first : now.fault ≡ first_line_fault start.sweep.ids.items 0 start.last (all_said text)
  pub followed : now.fault ≡ None → HasFollowed start now text
  pub kept : KeepsTold start.sweep now.sweep

-- something is counted of a vertex, so it has an edge
abbrev pub HasCount : List ℕ → List ℕ → ℕ → Type 0
HasCount later supporters v = (0 < at later v) ⊎ (0 < at supporters v)

-- the first claim of whose vertex nothing is counted
pub record IsFirstUncounted (claims : List Claim) (order later supporters : List ℕ) (claim : Claim) : Type 0 where
  pub place : ℕ
  pub within : place < length claims
  pub is : claim ≡ claim_at claims place
  pub no_later : at later (at order place) ≡ 0
  pub no_supporter : at supporters (at order place) ≡ 0
  pub before : (i : ℕ) → i < place → HasCount later supporters (at order i)

-- What the counts show to be wrong: a claim that does not agree, the first such one; or all agree, and of this one's vertex nothing is counted.
abbrev pub IsCountFault : List Claim → List ℕ → List ℕ → List ℕ → ClaimFault → Type 0
IsCountFault claims order later supporters (Unknown claim) =
    ((i : ℕ) → i < length claims → Agrees claims order later supporters i) × IsFirstUncounted claims order later supporters claim
IsCountFault claims order later supporters (Repeated claim) = ⊥
IsCountFault claims order later supporters (Missing id) = ⊥
IsCountFault claims order later supporters (ManyLater claim count) = IsFirstMiscount claims order later supporters (ManyLater claim count)
IsCountFault claims order later supporters (FewSupporters claim count) = IsFirstMiscount claims order later supporters (FewSupporters claim count)

-- All bytes of a stream, which are all of what is known of them, were looked at, from where a sweep had begun for what claims tell. No line is wrong.
pub record HasInsistedFor (claims : List Claim) (order : List ℕ) (now : Insisting) (known : Option (List ℕ)) : Type 0 where
  pub sweep : Sweep
  pub begun : HasBegunFor claims order sweep
  pub fed : IsFedWith HasSwept sweep now.sweep known GRAPH.bytes
  pub clean : first_line_fault sweep.ids.items 0 None (all_said fed.text) ≡ None
  pub last : now.last ≡ last_pair None (all_said fed.text)
  pub fresh : now.fault ≡ None
