-- How a run ends that checks a certificate, and what it has done then.
use Rattle.std.specs.Prelude.{◌≡◌, ◌⊎◌, ◌≤◌, ℕ, List, [], Option, Some, IfSome, Result, Ok, Err, length, nat_lt, take, if◌then◌else◌}
use Rattle.std.specs.Io.KnownBytes.{Appends}
use Rattle.kc_io.specs.Causes.{Rose}
use Rattle.kc_io.specs.declared.sink.Sink as sinks
use Rattle.kc_io.specs.declared.source.Source as sources
use Rattle.kc_dialect.specs.declared.dialect.Dialect.{Dialect}
use Rattle.kc_dialect.specs.declared.skipped.SkippedLines.{SkippedLines}
use Rattle.kc_graph.specs.SimpleGraph.{SimpleGraph}
use Rattle.kc_text.specs.declared.kind.Kind.TheVariants.{TooLong}
use Rattle.kc_text.specs.declared.limits.TheConstants.Limits.{GRAPH}
use Rattle.kc_text.specs.declared.refusal.Refusal.{Refusal}
use Rattle.kc_claims.specs.Certificates.{AreCertificate, IsFirstFault, TellCoreNumbers}
use Rattle.kc_claims.specs.Claims.{claims_of}
use Rattle.kc_claims.specs.declared.claim.Claim.{Claim}
use Rattle.kc_claims.specs.declared.fault.ClaimFault.{ClaimFault}
use Rattle.kc_wishes.specs.Wishes.{GraphText}
use Rattle.kc_cores.specs.Answers.{IsRefusedBy}
use Rattle.kc_cores.specs.CoresEnded.{IsUnopenedLine, WriteFaultsAt}
use Rattle.kc_cores.specs.Inputs.{IsGraphOf, known_bytes}
use Rattle.kc_cores.specs.Sentences.{GraphRefusal, no_memory_line, read_fault_line, refused_line, write_fault_line}
use Rattle.kc_cores.specs.Verdicts.{claim_refused_line, fault_line, no_line, yes_line}
use Rattle.kc_cores.specs.declared.CoresStatus.{CoresStatus}
use Rattle.kc_cores.specs.declared.CoresStatus.TheVariants as status
use Rattle.kc_cores.specs.declared.input.FileFault.{FileFault}

-- what the text of a certificate claims, which may have as many bytes as that of a graph
unfoldable pub certificate_meaning : List ℕ → Result (List Claim) Refusal
certificate_meaning text = if nat_lt GRAPH.bytes (length text) then Err (record { line = 0; kind = TooLong }) else claims_of text

-- the claims of the text, which is all of what is known of it
pub record AreClaimsOf (known : Option (List ℕ)) (claims : List Claim) : Type 0 where
  pub text : List ℕ
  pub read : IfSome known (λ all. text ≡ all)
  pub means : certificate_meaning text ≡ Ok claims

-- what holds of the graph and the claims that were read
pub record HoldsOfBoth (P : List ℕ → SimpleGraph → List Claim → Type 0) (dialect : Option Dialect) (known certificate : Option (List ℕ)) : Type 0 where
  pub ids : List ℕ
  pub g : SimpleGraph
  pub claims : List Claim
  pub skipped : SkippedLines
  pub graph : IsGraphOf dialect known ids g skipped
  pub claimed : AreClaimsOf certificate claims
  pub found : P ids g claims

-- the claims are a certificate, and so they tell each id its core number
abbrev pub IsRight : Option Dialect → Option (List ℕ) → Option (List ℕ) → Type 0
IsRight = HoldsOfBoth (λ ids g claims. AreCertificate ids g claims × TellCoreNumbers ids g claims)

-- the claims are none, and this is the first fault
abbrev pub IsWrong : ClaimFault → Option Dialect → Option (List ℕ) → Option (List ℕ) → Type 0
IsWrong fault = HoldsOfBoth (λ ids g claims. IsFirstFault ids g claims fault)

-- the answer to what was read
abbrev pub IsVerdictOn : Option Dialect → Option (List ℕ) → Option (List ℕ) → List ℕ → Type 0
IsVerdictOn dialect known certificate text =
    (IsRight dialect known certificate × (text ≡ yes_line)) ⊎ ((fault : ClaimFault) × IsWrong fault dialect known certificate × (text ≡ no_line fault))

-- why a line is refused: one of the graph, or one of the certificate
abbrev pub IsRefusedLine : List ℕ → GraphText → Option (List ℕ) → Option (List ℕ) → List ℕ → Type 0
IsRefusedLine name graph known certificate line =
    ((refusal : GraphRefusal) × (line ≡ refused_line graph refusal) × IfSome known (λ bytes. IsRefusedBy graph.dialect bytes refusal))
    ⊎ ((refusal : Refusal) × (line ≡ claim_refused_line name refusal) × IfSome certificate (λ text. certificate_meaning text ≡ Err refusal))

-- At each status what was found, what the sink took, and what is told. `name` is that of the certificate, and `known` and `certificate` are the
-- bytes of the graph and of the certificate, where they are known.
abbrev pub CheckAt : CoresStatus → List ℕ → GraphText → Option (List ℕ) → Option (List ℕ) → Option (List ℕ) → Option (List ℕ) → List ℕ → Type 0
CheckAt status.Certified name graph known certificate before after line = IsRight graph.dialect known certificate × Appends before after yes_line × (line ≡ [])
CheckAt status.Uncertified name graph known certificate before after line =
    (fault : ClaimFault) × IsWrong fault graph.dialect known certificate × Appends before after (no_line fault) × (line ≡ fault_line name fault)
CheckAt status.WriteFault name graph known certificate before after line =
    (text : List ℕ) × IsVerdictOn graph.dialect known certificate text × ((n : ℕ) × (n ≤ length text) × Appends before after (take n text)) × (line ≡
    write_fault_line)
CheckAt status.Refused name graph known certificate before after line = IsRefusedLine name graph known certificate line × Appends before after []
CheckAt status.Unopened name graph known certificate before after line =
    ((opened : List ℕ) × (fault : FileFault) × ((opened ≡ name) ⊎ (graph.file ≡ Some opened)) × IsUnopenedLine opened fault line) × Appends before after []
CheckAt status.ReadFault name graph known certificate before after line = (line ≡ read_fault_line) × Appends before after []
CheckAt status.NoMemory name graph known certificate before after line = (line ≡ no_memory_line) × Appends before after []
CheckAt _ name graph known certificate before after line = ⊥

-- what became of the counts of faults of the input and of the certificate: one rose where a file was not opened or a call failed
abbrev pub CheckFaultsAt : CoresStatus → ℕ → ℕ → ℕ → ℕ → Type 0
CheckFaultsAt status.Unopened i i' c c' = Rose i i' ⊎ Rose c c'
CheckFaultsAt status.ReadFault i i' c c' = Rose i i' ⊎ Rose c c'
CheckFaultsAt _ i i' c c' = (i' ≡ i) × (c' ≡ c)

-- A run has ended that checks the certificate of this name for the graph of a file, or of standard input. `i` is its input, `c` what has its
-- certificate, and `o` the sink of its answer, each before and after; the other arguments say what is known of them.
pub record CheckEnded {I C O : Type 0} (source : sources.Ghosts I) (behind : I → List ℕ → Option (List ℕ)) (kept : sources.Ghosts C)
    (beside : C → List ℕ → Option (List ℕ)) (out : sinks.Ghosts O) (name : List ℕ) (graph : GraphText) (end : CoresStatus) (told : List ℕ)
    (i i' : I) (c c' : C) (o o' : O) : Type 0 where
  pub did : CheckAt end name graph (known_bytes source.left behind graph.file i) (beside c name) (out.taken o) (out.taken o') told
  pub faults : CheckFaultsAt end (source.faults i) (source.faults i') (kept.faults c) (kept.faults c')
  pub write_faults : WriteFaultsAt end (out.faults o) (out.faults o')
