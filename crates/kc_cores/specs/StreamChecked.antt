-- How a run ends that checks a certificate for an ascending stream, and what it has done then.
use Rattle.std.specs.Prelude.{◌≡◌, ◌⊎◌, ◌≤◌, ◌+◌, ◌-◌, ℕ, Bool, List, [], ◌∷◌, ◌++◌, None, Option, Some, IfSome, Err, codes, false, length}
use Rattle.std.specs.Prelude.{nat_lt, slice_get, take, true}
use Rattle.std.specs.Fmt.{decimal}
use Rattle.std.specs.Io.KnownBytes.{Appends}
use Rattle.kc_io.specs.declared.sink.Sink as sinks
use Rattle.kc_io.specs.declared.source.Source as sources
use Rattle.kc_text.specs.declared.refusal.Refusal.{Refusal}
use Rattle.kc_claims.specs.Pieces.{HasFaultyPiece, with_piece}
use Rattle.kc_claims.specs.Streams.{IsFaultOfStream}
use Rattle.kc_claims.specs.declared.claim.Claim.{Claim}
use Rattle.kc_claims.specs.declared.fault.ClaimFault.{ClaimFault}
use Rattle.kc_claims.specs.declared.fault.ClaimFault.TheVariants as claim_fault
use Rattle.kc_claims.specs.declared.fault.FaultyLine.{FaultyLine}
use Rattle.kc_claims.specs.declared.fault.LineFault.{LineFault}
use Rattle.kc_claims.specs.declared.fault.LineFault.TheVariants as wrong
use Rattle.kc_cores.specs.CheckEnded.{AreClaimsOf, CheckFaultsAt, IsRight, certificate_meaning}
use Rattle.kc_cores.specs.CoresEnded.{IsUnopenedLine, WriteFaultsAt}
use Rattle.kc_cores.specs.Inputs.{known_bytes}
use Rattle.kc_cores.specs.Sentences.{in_file, no_memory_line, read_fault_line, sentence_of, write_fault_line}
use Rattle.kc_cores.specs.Verdicts.{claim_refused_line, fault_line, no_line, yes_line}
use Rattle.kc_cores.specs.declared.CoresStatus.{CoresStatus}
use Rattle.kc_cores.specs.declared.CoresStatus.TheVariants as status
use Rattle.kc_cores.specs.declared.input.FileFault.{FileFault}

-- how edges are mended that do not ascend, by whether they come in several files
abbrev pub descends_sentence : Bool → List ℕ
descends_sentence false =
    codes "the edges do not ascend here; sort them, as by sort -n -u -k1,1 -k2,2, with the lesser id of each first, or leave out --stream"
descends_sentence true =
    codes "the edges do not ascend here; sort each file (sort -n -u -k1,1 -k2,2, lesser id first), give them in that order, each edge once"

-- what was found wrong with a line of a stream that is to ascend, and how it is mended, by whether it comes in several files
abbrev pub line_fault_sentence : Bool → LineFault → List ℕ
line_fault_sentence several (wrong.Refused kind) = sentence_of kind
line_fault_sentence several wrong.Descends = descends_sentence several
line_fault_sentence several (wrong.Unclaimed id) = codes "an id has no line in the certificate; add it or write the certificate anew with cores order"

-- `cores: FILE: line 7: SENTENCE`
abbrev pub faulty_line : Bool → Option (List ℕ) → FaultyLine → List ℕ
faulty_line several file faulty =
    codes "cores: " ++ (in_file file ++ (codes "line " ++ (decimal faulty.line ++ (codes ": " ++ (line_fault_sentence several faulty.fault ++ 10 ∷ [])))))

-- whether there are two or more
abbrev pub is_several : {X : Type 0} → List X → Bool
is_several files = nat_lt 1 (length files)

-- What is known of a text and those of the files of these names behind it, where an input is turned to one after another. Of each it is what the input
-- tells when it is turned to it.
abbrev pub IsTextBehind : {I : Type 0} → (I → List ℕ → Option (List ℕ)) → Option (List ℕ) → List (List ℕ) → Option (List ℕ) → Type 0
IsTextBehind behind before [] known = known ≡ before
IsTextBehind {I} behind before (name ∷ names) known = (turned : I) × IsTextBehind behind (with_piece before (behind turned name)) names known

-- what is known of the text of the files of these names, of which the first is read of this input as it is
abbrev pub IsTextOfFiles : {I : Type 0} → (I → List ℕ → Option (List ℕ)) → I → List (List ℕ) → Option (List ℕ) → Type 0
IsTextOfFiles behind i [] known = known ≡ Some []
IsTextOfFiles behind i (name ∷ names) known = IsTextBehind behind (behind i name) names known

-- what is known of a stream: that of the files of these names, or what an input has left where there are none
abbrev pub IsStreamText : {I : Type 0} → (I → Option (List ℕ)) → (I → List ℕ → Option (List ℕ)) → I → List (List ℕ) → Option (List ℕ) → Type 0
IsStreamText left behind i [] known = known ≡ left i
IsStreamText left behind i (name ∷ names) known = IsTextOfFiles behind i (name ∷ names) known

-- what is known of the file at a place, or of what the input has left where there are no files; and of the text of those before
pub record IsPieceOf {I : Type 0} (left : I → Option (List ℕ)) (behind : I → List ℕ → Option (List ℕ)) (i : I) (files : List (List ℕ)) (n : ℕ)
    (before known : Option (List ℕ)) : Type 0 where
  pub within : n ≤ length files - 1
  pub came : IsTextOfFiles behind i (take n files) before
  pub turned : I
  pub first : n ≡ 0 → turned ≡ i
  pub is : known ≡ known_bytes left behind (slice_get files n) turned

-- what holds of the claims that were read
pub record HoldsOfClaims (P : List Claim → Type 0) (certificate : Option (List ℕ)) : Type 0 where
  pub claims : List Claim
  pub claimed : AreClaimsOf certificate claims
  pub found : P claims

-- this shows that the claims are none
abbrev pub IsStreamWrong : ClaimFault → Option (List ℕ) → Option (List ℕ) → Type 0
IsStreamWrong fault known certificate = HoldsOfClaims (λ claims. IsFaultOfStream claims fault known) certificate

-- The files that are read where this shows that claims are none: those up to the line that names an id without a claim, or else all.
abbrev pub files_for : ClaimFault → ℕ → List (List ℕ) → List (List ℕ)
files_for (claim_fault.Missing id) n files = take (n + 1) files
files_for _ n files = files

-- of a stream whose text is that of these files, or what an input has left, the claims are a certificate
abbrev pub IsStreamRight : {I : Type 0} → (I → Option (List ℕ)) → (I → List ℕ → Option (List ℕ)) → I → List (List ℕ) → Option (List ℕ) → Type 0
IsStreamRight left behind i files certificate = (known : Option (List ℕ)) × IsStreamText left behind i files known × IsRight None known certificate

-- of such a stream this shows that the claims are none
abbrev pub IsStreamFault : {I : Type 0} → (I → Option (List ℕ)) → (I → List ℕ → Option (List ℕ)) → I → List (List ℕ) → ClaimFault → Option (List ℕ) → Type 0
IsStreamFault left behind i files fault certificate =
    (n : ℕ) × (known : Option (List ℕ)) × IsStreamText left behind i (files_for fault n files) known × IsStreamWrong fault known certificate

-- the answer to what was read: yes as where the graph is made of it
abbrev pub IsStreamVerdictOn : {I : Type 0} → (I → Option (List ℕ)) → (I → List ℕ → Option (List ℕ)) → I → List (List ℕ) → Option (List ℕ) → List ℕ → Type 0
IsStreamVerdictOn left behind i files certificate text =
    (IsStreamRight left behind i files certificate × (text ≡ yes_line))
    ⊎ ((fault : ClaimFault) × IsStreamFault left behind i files fault certificate × (text ≡ no_line fault))

-- the first line that is wrong in a stream for these claims: it stands in the file at a place, and its number is that within the file
abbrev pub IsFaultyLine : {I : Type 0} → (I → Option (List ℕ)) → (I → List ℕ → Option (List ℕ)) → I → List (List ℕ) → Option (List ℕ) → List ℕ → Type 0
IsFaultyLine left behind i files certificate line =
    (n : ℕ) × (before : Option (List ℕ)) × (known : Option (List ℕ)) × (faulty : FaultyLine) × IsPieceOf left behind i files n before known
    × (line ≡ faulty_line (is_several files) (slice_get files n) faulty)
    × HoldsOfClaims (λ claims. HasFaultyPiece claims before known faulty) certificate

-- At each status what was found, what the sink took, and what is told. `name` is that of the certificate and `files` those of the stream, if it is in
-- files; `certificate` are the bytes of the certificate, where they are known.
abbrev pub StreamCheckAt : {I : Type 0} → (I → Option (List ℕ)) → (I → List ℕ → Option (List ℕ)) → I → CoresStatus → List ℕ → List (List ℕ)
    → Option (List ℕ) → Option (List ℕ) → Option (List ℕ) → List ℕ → Type 0
StreamCheckAt left behind i status.Certified name files certificate before after line =
    IsStreamRight left behind i files certificate × Appends before after yes_line × (line ≡ [])
StreamCheckAt left behind i status.Uncertified name files certificate before after line =
    (fault : ClaimFault) × IsStreamFault left behind i files fault certificate × Appends before after (no_line fault) × (line ≡ fault_line name fault)
StreamCheckAt left behind i status.WriteFault name files certificate before after line =
    (text : List ℕ) × IsStreamVerdictOn left behind i files certificate text
    × ((n : ℕ) × (n ≤ length text) × Appends before after (take n text)) × (line ≡ write_fault_line)
StreamCheckAt left behind i status.Refused name files certificate before after line =
    (IsFaultyLine left behind i files certificate line
    ⊎ ((refusal : Refusal) × (line ≡ claim_refused_line name refusal) × IfSome certificate (λ text. certificate_meaning text ≡ Err refusal)))
    × Appends before after []
StreamCheckAt left behind i status.Unopened name files certificate before after line =
    ((opened : List ℕ) × (fault : FileFault) × ((opened ≡ name) ⊎ ((n : ℕ) × (slice_get files n ≡ Some opened))) × IsUnopenedLine opened fault line)
    × Appends before after []
StreamCheckAt left behind i status.ReadFault name files certificate before after line = (line ≡ read_fault_line) × Appends before after []
StreamCheckAt left behind i status.NoMemory name files certificate before after line = (line ≡ no_memory_line) × Appends before after []
StreamCheckAt left behind i _ name files certificate before after line = ⊥

-- A run has ended that checks the certificate of this name for the ascending stream of files, or of standard input. `i` is its input, `c` what has
-- its certificate, and `o` the sink of its answer, each before and after; the other arguments say what is known of them.
pub record StreamChecked {I C O : Type 0} (source : sources.Ghosts I) (behind : I → List ℕ → Option (List ℕ)) (kept : sources.Ghosts C)
    (beside : C → List ℕ → Option (List ℕ)) (out : sinks.Ghosts O) (name : List ℕ) (files : List (List ℕ)) (end : CoresStatus) (told : List ℕ)
    (i i' : I) (c c' : C) (o o' : O) : Type 0 where
  pub did : StreamCheckAt source.left behind i end name files (beside c name) (out.taken o) (out.taken o') told
  pub faults : CheckFaultsAt end (source.faults i) (source.faults i') (kept.faults c) (kept.faults c')
  pub write_faults : WriteFaultsAt end (out.faults o) (out.faults o')
