-- How a run ends, and what it has done then: the promise of `answer`, clause by clause.
use Rattle.std.specs.Prelude.{◌≡◌, ◌⊎◌, ◌≤◌, ◌<◌, ℕ, Bool, List, [], Option, Some, None, IfSome, if◌then◌else◌, length, take, false, true, ⊤}
use Rattle.std.specs.Io.KnownBytes.{Appends, IsAtEnd}
use Rattle.kc_io.specs.Causes.{Rose}
use Rattle.kc_io.specs.FirstPiece.{KeepsFirst}
use Rattle.kc_io.specs.declared.sink.Sink as sinks
use Rattle.kc_io.specs.declared.source.Source as sources
use Rattle.kc_head.specs.declared.foreign.Foreign.{Foreign}
use Rattle.kc_text.specs.declared.kind.Kind.{Kind}
use Rattle.kc_text.specs.Meaning.{Means, Refuses, Told}
use Rattle.clap.specs.Kinds.{Kinds}
use Rattle.kc_wishes.specs.Wishes.{Asks, Checks, ChecksStream, MayReply, Query, Replies, Saves, Watches, Wish}
use Rattle.kc_cores.specs.Answers.{IsForeignBy, IsRefusedBy, IsTextFor, graph_meaning}
use Rattle.kc_cores.specs.Inputs.{known_bytes}
use Rattle.kc_cores.specs.Sentences.{GraphRefusal, no_memory_line, read_fault_line, refused_line, unopened_line, unopened_short_line, write_fault_line}
use Rattle.kc_cores.specs.declared.CoresStatus.{CoresStatus}
use Rattle.kc_cores.specs.declared.CoresStatus.TheVariants as status
use Rattle.kc_cores.specs.declared.input.FileFault.{FileFault}

-- the bytes that a run reads, where they are known
abbrev pub given_bytes : {I : Type 0} → (I → Option (List ℕ)) → (I → List ℕ → Option (List ℕ)) → Wish → I → Option (List ℕ)
given_bytes left behind (Asks query) i = known_bytes left behind query.graph.file i
given_bytes left behind (Saves name query) i = None
given_bytes left behind (Checks name graph) i = None
given_bytes left behind (ChecksStream name files) i = None
given_bytes left behind (Watches stream) i = None
given_bytes left behind (Replies kinds) i = None

-- the lines and the summary of what was read, which is all of the input where it is known
abbrev pub IsAnswerTo : Wish → Option (List ℕ) → List ℕ → List ℕ → Type 0
IsAnswerTo (Asks query) known text summary =
    (bytes : List ℕ) × IfSome known (λ all. bytes ≡ all)
    × ((what : Option Foreign) × IsForeignBy query.graph.dialect known what × IsTextFor query bytes what text summary)
IsAnswerTo (Saves name query) known text summary = ⊥
IsAnswerTo (Checks name graph) known text summary = ⊥
IsAnswerTo (ChecksStream name files) known text summary = ⊥
IsAnswerTo (Watches stream) known text summary = ⊥
IsAnswerTo (Replies kinds) known text summary = ⊥

-- all of a text was taken, with this fact about it
abbrev pub TookWhole : (List ℕ → Type 0) → Option (List ℕ) → Option (List ℕ) → Type 0
TookWhole P before after = (text : List ℕ) × P text × Appends before after text

-- a prefix of a text was taken, with this fact about the whole text
abbrev pub TookPrefix : (List ℕ → Type 0) → Option (List ℕ) → Option (List ℕ) → Type 0
TookPrefix P before after = (text : List ℕ) × P text × ((n : ℕ) × (n ≤ length text) × Appends before after (take n text))

-- what a run has to write: the lines that are asked for, or help or the version
abbrev pub IsOutputFor : Wish → Option (List ℕ) → List ℕ → Type 0
IsOutputFor (Asks query) known text = (summary : List ℕ) × IsAnswerTo (Asks query) known text summary
IsOutputFor (Saves name query) known text = ⊥
IsOutputFor (Checks name graph) known text = ⊥
IsOutputFor (ChecksStream name files) known text = ⊥
IsOutputFor (Watches stream) known text = ⊥
IsOutputFor (Replies kinds) known text = MayReply true (Replies kinds)

-- what the sink of the lines took at each status
abbrev pub TookAt : CoresStatus → Wish → Option (List ℕ) → Option (List ℕ) → Option (List ℕ) → Type 0
TookAt status.Done wish known before after = TookWhole (λ text. (summary : List ℕ) × IsAnswerTo wish known text summary) before after
TookAt status.Shown wish known before after = TookWhole (λ text. MayReply true wish) before after
TookAt status.WriteFault wish known before after = TookPrefix (IsOutputFor wish known) before after
TookAt status.ReaderGone wish known before after = TookPrefix (IsOutputFor wish known) before after
TookAt status.Usage wish known before after = Appends before after []
TookAt status.Refused wish known before after = Appends before after []
TookAt status.Unopened wish known before after = Appends before after []
TookAt status.ReadFault wish known before after = Appends before after []
TookAt status.NoMemory wish known before after = Appends before after []
TookAt status.Certified wish known before after = ⊥
TookAt status.Uncertified wish known before after = ⊥

-- what became of the input's count of faults at each status: it rose where a file was not opened or a call failed, and else it stayed
abbrev pub FaultsAt : CoresStatus → ℕ → ℕ → Type 0
FaultsAt status.Unopened before after = Rose before after
FaultsAt status.ReadFault before after = Rose before after
FaultsAt status.Done before after = after ≡ before
FaultsAt status.Shown before after = after ≡ before
FaultsAt status.Usage before after = after ≡ before
FaultsAt status.Refused before after = after ≡ before
FaultsAt status.WriteFault before after = after ≡ before
FaultsAt status.ReaderGone before after = after ≡ before
FaultsAt status.NoMemory before after = after ≡ before
FaultsAt status.Certified before after = after ≡ before
FaultsAt status.Uncertified before after = after ≡ before

-- what became of the count of faults of the sink of the lines: it rose where a write failed, and else it stayed
abbrev pub WriteFaultsAt : CoresStatus → ℕ → ℕ → Type 0
WriteFaultsAt status.WriteFault before after = Rose before after
WriteFaultsAt status.ReaderGone before after = Rose before after
WriteFaultsAt status.Done before after = after ≡ before
WriteFaultsAt status.Shown before after = after ≡ before
WriteFaultsAt status.Usage before after = after ≡ before
WriteFaultsAt status.Refused before after = after ≡ before
WriteFaultsAt status.Unopened before after = after ≡ before
WriteFaultsAt status.ReadFault before after = after ≡ before
WriteFaultsAt status.NoMemory before after = after ≡ before
WriteFaultsAt status.Certified before after = after ≡ before
WriteFaultsAt status.Uncertified before after = after ≡ before

-- whether the reader of the lines is gone, where a write failed
abbrev pub ReaderAt : CoresStatus → Bool → Type 0
ReaderAt status.ReaderGone gone = gone ≡ true
ReaderAt status.WriteFault gone = gone ≡ false
ReaderAt _ gone = ⊤

-- A line about a run. It was offered whole, so the status is fixed before the sink answers; and it was taken, or a prefix of it where a call failed.
pub record ToldLine {E : Type 0} (err : sinks.Ghosts E) (line : List ℕ) (e e' : E) : Type 0 where
  pub amount : ℕ
  pub within : amount ≤ length line
  pub took : Appends (err.taken e) (err.taken e') (take amount line)
  pub whole : (Rose (err.faults e) (err.faults e') → ⊥) → amount ≡ length line
  pub offered : 0 < length line → KeepsFirst (err.first e) (err.first e') line

-- the line about a file that was not opened, which lacks the name where there is no memory for it
abbrev pub IsUnopenedLine : List ℕ → FileFault → List ℕ → Type 0
IsUnopenedLine name fault line = (line ≡ unopened_line name fault) ⊎ (line ≡ unopened_short_line)

-- the line of a run that is done: its summary, or nothing where it is quiet
abbrev pub done_line : Bool → List ℕ → List ℕ
done_line quiet summary = if quiet then [] else summary

-- whether words ask for a run that tells nothing of itself once it is done
abbrev pub is_quiet : Wish → Bool
is_quiet (Asks query) = query.quiet
is_quiet _ = false

-- The line of each status. `known` are the bytes of the input, where they are known. The line about wrong words is that of `clap`.
abbrev pub IsLineAt : CoresStatus → Wish → Option (List ℕ) → List ℕ → Type 0
IsLineAt status.Done wish known line =
    (text : List ℕ) × (summary : List ℕ) × IsAnswerTo wish known text summary × (line ≡ done_line (is_quiet wish) summary)
IsLineAt status.Shown wish known line = line ≡ []
IsLineAt status.Usage wish known line = ⊤
IsLineAt status.Refused wish known line =
    (query : Query) × (refusal : GraphRefusal) × (wish ≡ Asks query) × (line ≡ refused_line query.graph refusal)
    × IfSome known (λ bytes. IsRefusedBy query.graph.dialect bytes refusal)
IsLineAt status.Unopened wish known line =
    (query : Query) × (name : List ℕ) × (fault : FileFault) × (wish ≡ Asks query) × (query.graph.file ≡ Some name) × IsUnopenedLine name fault line
IsLineAt status.ReadFault wish known line = line ≡ read_fault_line
IsLineAt status.WriteFault wish known line = line ≡ write_fault_line
IsLineAt status.ReaderGone wish known line = line ≡ []
IsLineAt status.NoMemory wish known line = line ≡ no_memory_line
IsLineAt status.Certified wish known line = ⊥
IsLineAt status.Uncertified wish known line = ⊥

-- A run for what the words ask for has ended with this status, and `told` is the line about it. `i` is its input and `o` the sink of its
-- lines, each before and after; `source`, `behind`, `out` and `gone` say what is known of them.
pub record CoresEnded {I O : Type 0} (source : sources.Ghosts I) (behind : I → List ℕ → Option (List ℕ)) (out : sinks.Ghosts O)
    (gone : O → Bool) (wish : Wish) (end : CoresStatus) (told : List ℕ) (i i' : I) (o o' : O) : Type 0 where
  -- A reply of `clap` ends the run, and then nothing is read.
  pub usage : end ≡ status.Usage → MayReply false wish
  pub shown : end ≡ status.Shown → MayReply true wish
  pub replies : (kinds : Kinds) → wish ≡ Replies kinds
      → (i' ≡ i) × ((end ≡ status.Usage) ⊎ (end ≡ status.Shown) ⊎ (end ≡ status.ReaderGone) ⊎ (end ≡ status.WriteFault) ⊎ (end ≡ status.NoMemory))
  -- The input is read to its end, and what is written are the lines of the graph that it means.
  pub read : end ≡ status.Done → IsAtEnd (source.left i')
  pub took : TookAt end wish (given_bytes source.left behind wish i) (out.taken o) (out.taken o')
  pub line : IsLineAt end wish (given_bytes source.left behind wish i) told
  -- When each status comes. A fault of the input or of the sink comes at its own status alone.
  pub faults : FaultsAt end (source.faults i) (source.faults i')
  pub write_faults : WriteFaultsAt end (out.faults o) (out.faults o')
  pub reader : ReaderAt end (gone o')
  pub refuses : (query : Query) (bytes : List ℕ) (n : ℕ) (kind : Kind) → wish ≡ Asks query
      → known_bytes source.left behind query.graph.file i ≡ Some bytes → graph_meaning query.graph.dialect bytes ≡ Refuses n kind
      → (end ≡ status.Refused) ⊎ (end ≡ status.Unopened) ⊎ (end ≡ status.ReadFault) ⊎ (end ≡ status.NoMemory)
  pub complete : (query : Query) (bytes : List ℕ) (all : Told) → wish ≡ Asks query
      → known_bytes source.left behind query.graph.file i ≡ Some bytes → graph_meaning query.graph.dialect bytes ≡ Means all
      → (end ≡ status.Done) ⊎ (end ≡ status.Unopened) ⊎ (end ≡ status.ReadFault) ⊎ (end ≡ status.ReaderGone)
      ⊎ (end ≡ status.WriteFault) ⊎ (end ≡ status.NoMemory)
