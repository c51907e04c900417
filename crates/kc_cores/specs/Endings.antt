-- Where a run ends.
use Rattle.std.specs.Prelude.{◌≡◌, ◌⊎◌, ◌≤◌, ℕ, Bool, Err, List, [], length, take, Option, Some, IfSome, false}
use Rattle.std.specs.Prelude.{slice_get, string_bytes, true}
use Rattle.std.specs.Io.KnownBytes.{Appends}
use Rattle.kc_io.specs.Causes.{Rose}
use Rattle.kc_text.specs.declared.refusal.Refusal.{Refusal}
use Rattle.kc_claims.specs.Certificates.{AreCertificate, TellCoreNumbers}
use Rattle.kc_claims.specs.Pieces.{HasFaultyPiece}
use Rattle.kc_claims.specs.Streams.{HoldsOfStream, IsFaultOfStream}
use Rattle.kc_claims.specs.declared.claim.Claim.{Claim}
use Rattle.kc_claims.specs.declared.fault.ClaimFault.{ClaimFault}
use Rattle.kc_claims.specs.declared.fault.FaultyLine.{FaultyLine}
use Rattle.kc_wishes.specs.Wishes.{GraphText, StreamStart}
use Rattle.kc_cores.specs.Answers.{IsRefusedBy}
use Rattle.kc_cores.specs.CheckEnded.{AreClaimsOf, certificate_meaning}
use Rattle.kc_cores.specs.CoresEnded.{IsUnopenedLine}
use Rattle.kc_cores.specs.Sentences.{GraphRefusal, no_memory_line, read_fault_line, refused_line, write_fault_line}
use Rattle.kc_cores.specs.StreamChecked.{IsPieceOf, IsStreamText, faulty_line, files_for, is_several}
use Rattle.kc_cores.specs.Verdicts.{claim_refused_line, fault_line, no_line}
use Rattle.kc_cores.specs.WatchEnded.{NoFrontAt}
use Rattle.kc_cores.specs.declared.CoresStatus.{CoresStatus}
use Rattle.kc_cores.specs.declared.CoresStatus.TheVariants as status
use Rattle.kc_cores.specs.declared.ending.Ending.{Ending}
use Rattle.kc_cores.specs.declared.input.FileFault.{FileFault}
use Rattle.kc_cores.specs.declared.message.Message.{Message}
use Rattle.kc_cores.specs.declared.message.Message.TheVariants.{Bytes, Fixed, Made}

-- the bytes of a line
abbrev pub message_text : Message → List ℕ
message_text (Fixed text) = text.now
message_text (Made text) = string_bytes text
message_text (Bytes text) = text.items

-- the line about a run that ends here
abbrev pub line_of : Ending → List ℕ
line_of ending = message_text ending.message

-- a refusal with its line, or want of memory for it
abbrev pub RefusalAt : CoresStatus → List ℕ → GraphText → GraphRefusal → Type 0
RefusalAt status.Refused line graph refusal = line ≡ refused_line graph refusal
RefusalAt status.NoMemory line graph refusal = line ≡ no_memory_line
RefusalAt _ line graph refusal = ⊥

-- the run ends by this refusal of the text of a graph
abbrev pub TellsRefusal : Ending → GraphText → GraphRefusal → Type 0
TellsRefusal ending graph refusal = RefusalAt ending.status (line_of ending) graph refusal

-- Why an input gives no graph, where `known` are its bytes if they are known. Its count of faults rose at a read fault alone.
abbrev pub NoGraphAt : CoresStatus → List ℕ → GraphText → Option (List ℕ) → ℕ → ℕ → Type 0
NoGraphAt status.Refused line graph known before after =
    (refusal : GraphRefusal) × (line ≡ refused_line graph refusal) × IfSome known (λ bytes. IsRefusedBy graph.dialect bytes refusal) × (after ≡ before)
NoGraphAt status.ReadFault line graph known before after = (line ≡ read_fault_line) × Rose before after
NoGraphAt status.NoMemory line graph known before after = (line ≡ no_memory_line) × (after ≡ before)
NoGraphAt _ line graph known before after = ⊥

-- the run ends since the source gives no graph
abbrev pub HasNoGraph : Ending → GraphText → Option (List ℕ) → ℕ → ℕ → Type 0
HasNoGraph ending graph known before after = NoGraphAt ending.status (line_of ending) graph known before after

-- why there is no graph of a file, or of standard input: the file was not opened, or there is none of its bytes
abbrev pub NoFileGraphAt : CoresStatus → List ℕ → GraphText → Option (List ℕ) → ℕ → ℕ → Type 0
NoFileGraphAt status.Unopened line graph known before after =
    (name : List ℕ) × (fault : FileFault) × (graph.file ≡ Some name) × IsUnopenedLine name fault line × Rose before after
NoFileGraphAt end line graph known before after = NoGraphAt end line graph known before after

-- the run ends since the file gives no graph
abbrev pub HasNoFileGraph : Ending → GraphText → Option (List ℕ) → ℕ → ℕ → Type 0
HasNoFileGraph ending graph known before after = NoFileGraphAt ending.status (line_of ending) graph known before after

-- the line of a status at which a write failed, by whether the reader is gone
abbrev pub CutAt : CoresStatus → List ℕ → Bool → Type 0
CutAt status.ReaderGone line gone = (line ≡ []) × (gone ≡ true)
CutAt status.WriteFault line gone = (line ≡ write_fault_line) × (gone ≡ false)
CutAt _ line gone = ⊥

-- why there are no claims of the certificate of this name, where `known` are its bytes if they are known
abbrev pub NoClaimsAt : CoresStatus → List ℕ → List ℕ → Option (List ℕ) → ℕ → ℕ → Type 0
NoClaimsAt status.Unopened line name known before after = (fault : FileFault) × IsUnopenedLine name fault line × Rose before after
NoClaimsAt status.Refused line name known before after =
    (refusal : Refusal) × (line ≡ claim_refused_line name refusal) × IfSome known (λ text. certificate_meaning text ≡ Err refusal) × (after ≡ before)
NoClaimsAt status.ReadFault line name known before after = (line ≡ read_fault_line) × Rose before after
NoClaimsAt status.NoMemory line name known before after = (line ≡ no_memory_line) × (after ≡ before)
NoClaimsAt _ line name known before after = ⊥

-- the run ends since the certificate gives no claims
abbrev pub HasNoClaims : Ending → List ℕ → Option (List ℕ) → ℕ → ℕ → Type 0
HasNoClaims ending name known before after = NoClaimsAt ending.status (line_of ending) name known before after

-- a refusal of a line of the certificate, or want of memory for it
abbrev pub ClaimRefusalAt : CoresStatus → List ℕ → List ℕ → Refusal → Type 0
ClaimRefusalAt status.Refused line name refusal = line ≡ claim_refused_line name refusal
ClaimRefusalAt status.NoMemory line name refusal = line ≡ no_memory_line
ClaimRefusalAt _ line name refusal = ⊥

-- the run ends by this refusal
abbrev pub TellsClaimRefusal : Ending → List ℕ → Refusal → Type 0
TellsClaimRefusal ending name refusal = ClaimRefusalAt ending.status (line_of ending) name refusal

-- a text was said whole, and the run ends as it was to; or a write failed
abbrev pub HasSaid : Ending → Ending → List ℕ → Option (List ℕ) → Option (List ℕ) → ℕ → ℕ → Type 0
HasSaid ending wanted text before after faults faults' =
    ((ending ≡ wanted) × Appends before after text × (faults' ≡ faults))
    ⊎ ((ending.status ≡ status.WriteFault) × (line_of ending ≡ write_fault_line)
    × ((n : ℕ) × (n ≤ length text) × Appends before after (take n text)) × Rose faults faults')

-- what was said of a fault of the certificate of this name at each status
abbrev pub RefutedAt : CoresStatus → List ℕ → List ℕ → ClaimFault → Option (List ℕ) → Option (List ℕ) → ℕ → ℕ → Type 0
RefutedAt status.Uncertified line name fault before after faults faults' =
    Appends before after (no_line fault) × (line ≡ fault_line name fault) × (faults' ≡ faults)
RefutedAt status.WriteFault line name fault before after faults faults' =
    ((n : ℕ) × (n ≤ length (no_line fault)) × Appends before after (take n (no_line fault))) × (line ≡ write_fault_line) × Rose faults faults'
RefutedAt status.NoMemory line name fault before after faults faults' = Appends before after [] × (line ≡ no_memory_line) × (faults' ≡ faults)
RefutedAt _ line name fault before after faults faults' = ⊥

-- the run ends by this fault of the certificate
abbrev pub IsRefuted : Ending → List ℕ → ClaimFault → Option (List ℕ) → Option (List ℕ) → ℕ → ℕ → Type 0
IsRefuted ending name fault before after faults faults' = RefutedAt ending.status (line_of ending) name fault before after faults faults'

-- the run ends since there is no verdict: there are no claims, and the input is as it was, or there is no graph
abbrev pub HasNoVerdict : Ending → List ℕ → GraphText → Option (List ℕ) → Option (List ℕ) → ℕ → ℕ → ℕ → ℕ → Type 0
HasNoVerdict ending name graph known certificate i i' c c' =
    (HasNoClaims ending name certificate c c' × (i' ≡ i)) ⊎ (HasNoFileGraph ending graph known i i' × (c' ≡ c))

-- why a piece of a stream was not taken, for these claims: its file was not opened, a line of it is wrong, it was not read, or there is no memory
abbrev pub NoPieceFor : CoresStatus → List ℕ → Bool → Option (List ℕ) → List Claim → Option (List ℕ) → Option (List ℕ) → ℕ → ℕ → Type 0
NoPieceFor status.Unopened line several file claims before known faults faults' =
    (name : List ℕ) × (fault : FileFault) × (file ≡ Some name) × IsUnopenedLine name fault line × Rose faults faults'
NoPieceFor status.Refused line several file claims before known faults faults' =
    ((faulty : FaultyLine) × (line ≡ faulty_line several file faulty) × HasFaultyPiece claims before known faulty) × (faults' ≡ faults)
NoPieceFor status.ReadFault line several file claims before known faults faults' = (line ≡ read_fault_line) × Rose faults faults'
NoPieceFor status.NoMemory line several file claims before known faults faults' = (line ≡ no_memory_line) × (faults' ≡ faults)
NoPieceFor _ line several file claims before known faults faults' = ⊥

-- the claims are a certificate of the graph of a stream, whose text is that of files or what an input has left
abbrev pub IsCertifiedStream : {I : Type 0} → (I → Option (List ℕ)) → (I → List ℕ → Option (List ℕ)) → I → List (List ℕ) → List Claim → Type 0
IsCertifiedStream left behind i files claims =
    (known : Option (List ℕ)) × IsStreamText left behind i files known
    × HoldsOfStream (λ ids g. AreCertificate ids g claims × TellCoreNumbers ids g claims) known

-- they are none of such a stream, and this shows it
abbrev pub IsFaultOfFiles : {I : Type 0} → (I → Option (List ℕ)) → (I → List ℕ → Option (List ℕ)) → I → List (List ℕ) → List Claim → ClaimFault → Type 0
IsFaultOfFiles left behind i files claims fault =
    (n : ℕ) × (known : Option (List ℕ)) × IsStreamText left behind i (files_for fault n files) known × IsFaultOfStream claims fault known

-- why a stream has no answer, for these claims: so it is at the piece at some place
abbrev pub NoStreamFor : {I : Type 0} → (I → Option (List ℕ)) → (I → List ℕ → Option (List ℕ)) → I → CoresStatus → List ℕ → List (List ℕ) → List Claim → ℕ → ℕ
    → Type 0
NoStreamFor left behind i end line files claims faults faults' =
    (n : ℕ) × (before : Option (List ℕ)) × (known : Option (List ℕ)) × IsPieceOf left behind i files n before known
    × NoPieceFor end line (is_several files) (slice_get files n) claims before known faults faults'

-- the run ends since there is no answer of a stream, or no claims, and the input is as it was
abbrev pub HasNoStreamVerdict : {I : Type 0} → (I → Option (List ℕ)) → (I → List ℕ → Option (List ℕ)) → I → Ending → List ℕ → List (List ℕ) → Option (List ℕ)
    → ℕ → ℕ → ℕ → ℕ → Type 0
HasNoStreamVerdict left behind i ending name files certificate faults faults' c c' =
    (HasNoClaims ending name certificate c c' × (faults' ≡ faults))
    ⊎ (((claims : List Claim) × AreClaimsOf certificate claims
    × NoStreamFor left behind i ending.status (line_of ending) files claims faults faults') × (c' ≡ c))
    ⊎ ((ending.status ≡ status.NoMemory) × (line_of ending ≡ no_memory_line) × (faults' ≡ faults) × (c' ≡ c))

-- the run ends by this line of a stream, or there is no memory for the message
abbrev pub TellsFaultyLineAt : CoresStatus → List ℕ → Bool → Option (List ℕ) → FaultyLine → Type 0
TellsFaultyLineAt status.Refused line several file faulty = line ≡ faulty_line several file faulty
TellsFaultyLineAt status.NoMemory line several file faulty = line ≡ no_memory_line
TellsFaultyLineAt _ line several file faulty = ⊥

-- the run ends since a write failed
abbrev pub IsCut : Ending → Bool → Type 0
IsCut ending gone = CutAt ending.status (line_of ending) gone

-- the run ends since the file in front of a stream is not read, or there is no memory
abbrev pub HasNoFront : Ending → (List ℕ → Option (List ℕ)) → StreamStart → ℕ → ℕ → Type 0
HasNoFront ending known start before after = NoFrontAt ending.status (line_of ending) known start before after
