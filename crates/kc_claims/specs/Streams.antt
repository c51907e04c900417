-- What holds of the graph of a stream.
use Rattle.std.specs.Prelude.{◌≡◌, ℕ, List, None, Option, Some, IfSome, All, nat_eq, true, ⊤}
use Rattle.std.specs.List.Sorted.{IsStrictlyIncreasing}
use Rattle.std.specs.Set.{is_member}
use Rattle.kc_graph.specs.SimpleGraph.{SimpleGraph}
use Rattle.kc_text.specs.Inputs.{AreIds, start_graph}
use Rattle.kc_text.specs.Meaning.{Means, Told, meaning, names}
use Rattle.kc_text.specs.declared.limits.TheConstants.Limits.{GRAPH}
use Rattle.kc_claims.specs.Certificates.{AreCertificate, IsFirstFault, IsRepeated, IsUnknown, TellCoreNumbers}
use Rattle.kc_claims.specs.LineFaults.{HasFaultyLine}
use Rattle.kc_claims.specs.declared.claim.Claim.{Claim}
use Rattle.kc_claims.specs.declared.fault.ClaimFault.{ClaimFault}
use Rattle.kc_claims.specs.declared.fault.ClaimFault.TheVariants.{Unknown, Repeated, Missing, ManyLater, FewSupporters}
use Rattle.kc_claims.specs.declared.fault.LineFault.TheVariants.{Unclaimed}
use Rattle.kc_claims.specs.declared.stream.SweptClaims.{SweptClaims}
use Rattle.kc_claims.specs.declared.stream.SweptClaims.TheVariants as swept

-- The bytes, which are all of what is known of them, mean a graph without batches. This holds of it, and of the ids for which its vertices stand.
pub record HoldsOfStream (P : List ℕ → SimpleGraph → Type 0) (known : Option (List ℕ)) : Type 0 where
  pub text : List ℕ
  pub read : IfSome known (λ all. text ≡ all)
  pub told : Told
  pub means : meaning GRAPH text ≡ Means told
  pub ids : List ℕ
  pub named : AreIds (names told) ids
  pub found : P ids (start_graph ids told.edges)

-- both ends are ids
abbrev pub IsAmong : List ℕ → ℕ × ℕ → Type 0
IsAmong ids e = (is_member nat_eq ids e.0 ≡ true) × (is_member nat_eq ids e.1 ≡ true)

-- The bytes, which are all of what is known of them, mean edges between ids of which some may have none. This holds of the ids, and of the graph
-- in which each of them has a vertex.
pub record HoldsOfIds (P : List ℕ → SimpleGraph → Type 0) (known : Option (List ℕ)) : Type 0 where
  pub text : List ℕ
  pub read : IfSome known (λ all. text ≡ all)
  pub told : Told
  pub means : meaning GRAPH text ≡ Means told
  pub ids : List ℕ
  pub ascending : IsStrictlyIncreasing ids
  pub among : All (IsAmong ids) told.edges
  pub found : P ids (start_graph ids told.edges)

-- The bytes, which are all of what is known of them, mean a graph without batches, and this holds of the ids that its lines name.
pub record HoldsOfNames (P : List ℕ → Type 0) (known : Option (List ℕ)) : Type 0 where
  pub text : List ℕ
  pub read : IfSome known (λ all. text ≡ all)
  pub told : Told
  pub means : meaning GRAPH text ≡ Means told
  pub found : P (names told)

-- What shows that claims are no certificate of the graph of a stream. A claim repeats the id of an earlier one, whatever the graph; or a line names
-- an id of which there is no claim, the first that is wrong; or a claim does not fit the counts in the graph that has a vertex for each claimed id,
-- the first that does not; or all fit, and this claim is the first of an id that no line names.
abbrev pub IsFaultOfStream : List Claim → ClaimFault → Option (List ℕ) → Type 0
IsFaultOfStream claims (Unknown claim) known = HoldsOfNames (λ ids. IsUnknown ids claims claim) known
IsFaultOfStream claims (Repeated claim) known = (ids : List ℕ) × IsRepeated ids claims claim
IsFaultOfStream claims (Missing id) known = (line : ℕ) × HasFaultyLine claims known (record { line = line; fault = Unclaimed id })
IsFaultOfStream claims (ManyLater claim count) known = HoldsOfIds (λ ids g. IsFirstFault ids g claims (ManyLater claim count)) known
IsFaultOfStream claims (FewSupporters claim count) known = HoldsOfIds (λ ids g. IsFirstFault ids g claims (FewSupporters claim count)) known

-- The claims are a certificate of the graph that the bytes mean, or this is the first fault.
abbrev pub IsStreamVerdict : List Claim → Option (List ℕ) → Option ClaimFault → Type 0
IsStreamVerdict claims known None = HoldsOfStream (λ ids g. AreCertificate ids g claims × TellCoreNumbers ids g claims) known
IsStreamVerdict claims known (Some fault) = HoldsOfStream (λ ids g. IsFirstFault ids g claims fault) known

-- a sweep tells a verdict
abbrev pub TellsVerdict : SweptClaims → Type 0
TellsVerdict (swept.Told found) = ⊤
TellsVerdict (swept.Untold again) = ⊥

-- So a sweep over the bytes tells it, or it gives the claims again.
abbrev pub IsSwept : List Claim → Option (List ℕ) → SweptClaims → Type 0
IsSwept claims known (swept.Told found) = IsStreamVerdict claims known found
IsSwept claims known (swept.Untold again) = again.items ≡ claims
