-- How a run ends that answers a stream, and what it has done then.
use Rattle.std.specs.Prelude.{◌≡◌, ◌⊎◌, ◌≤◌, ◌-◌, ◌^◌, ◌++◌, ℕ, zero, suc, List, [], Option, None, Some, IfSome, length, ⊤}
use Rattle.std.specs.Io.KnownBytes.{IsAtEnd}
use Rattle.kc_io.specs.Causes.{Rose}
use Rattle.kc_io.specs.declared.source.Source as sources
use Rattle.kc_wire.specs.Events.{TellsMore, WireEvent, read_in}
use Rattle.kc_wire.specs.declared.wire.Wire as wires
use Rattle.kc_dialogue.specs.Endings.{HasAnswered, faults_at}
use Rattle.kc_io.specs.LineEnds.{with_end}
use Rattle.kc_dialogue.specs.Openings.{behind}
use Rattle.kc_dialogue.specs.declared.end.DialogueEnd.{DialogueEnd}
use Rattle.kc_dialogue.specs.declared.end.DialogueEnd.TheVariants as dialogue
use Rattle.kc_text.specs.declared.refusal.Refusal.{Refusal}
use Rattle.kc_stream.specs.Hearing.{Heard, heard_at_end, heard_so_far}
use Rattle.kc_state.specs.Reading.{IsStateText}
use Rattle.kc_state.specs.Starts.{start_text}
use Rattle.kc_state.specs.Texts.{KeptParts}
use Rattle.kc_state.specs.declared.fault.StateFault.{StateFault}
use Rattle.kc_watch.specs.Text.{reply, reply_at_end}
use Rattle.kc_watch.specs.declared.options.WatchOptions.{WatchOptions}
use Rattle.kc_wishes.specs.Wishes.{BegunFrom, BegunFromState, StreamQuery, StreamStart, Unbegun, file_of}
use Rattle.kc_cores.specs.CoresEnded.{IsUnopenedLine}
use Rattle.kc_cores.specs.Sentences.{no_memory_line, read_fault_line, refused_batches_line, refused_behind, state_refused_line, write_fault_line}
use Rattle.kc_cores.specs.declared.CoresStatus.{CoresStatus}
use Rattle.kc_cores.specs.declared.CoresStatus.TheVariants as status
use Rattle.kc_cores.specs.declared.input.FileFault.{FileFault}

-- How a run ends that has answered all and tells this line then, or has no memory for it.
abbrev pub EndsTelling : CoresStatus → List ℕ → CoresStatus → List ℕ → Type 0
EndsTelling wanted line end told = ((end ≡ wanted) × (told ≡ line)) ⊎ ((end ≡ status.NoMemory) × (told ≡ no_memory_line))

-- How a run ends that has answered all: by the refused line that ended the reading, if one did, and else well. It tells then how many batches
-- were refused, if some were. The stream stands behind so many lines of a file, if there is one.
abbrev pub HasEndedBy : Option (List ℕ) → ℕ → Option Refusal → ℕ → CoresStatus → List ℕ → Type 0
HasEndedBy file lines None zero end told = (end ≡ status.Done) × (told ≡ [])
HasEndedBy file lines None (suc n) end told = EndsTelling status.Done (refused_batches_line (suc n)) end told
HasEndedBy file lines (Some refusal) batches end told = EndsTelling status.Refused (refused_behind file lines refusal) end told

-- what a run tells of its stream: the refused line that ended the reading, if one did, and how many batches were refused
abbrev pub outcome : Heard → Option Refusal × ℕ
outcome heard = (heard.refusal, heard.refused_batches)

-- How a run ends whose dialogue has ended so. `so_far` is what it tells of the lines that have ended, and `at_end` of all where the stream has
-- ended.
abbrev pub HasEndedSo : Option (List ℕ) → ℕ → DialogueEnd → Option Refusal × ℕ → Option Refusal × ℕ → CoresStatus → List ℕ → Type 0
HasEndedSo file lines dialogue.Done so_far at_end end told = HasEndedBy file lines at_end.0 at_end.1 end told
HasEndedSo file lines dialogue.Ended so_far at_end end told = HasEndedBy file lines so_far.0 so_far.1 end told
HasEndedSo file lines dialogue.ReadFault so_far at_end end told = (end ≡ status.ReadFault) × (told ≡ read_fault_line)
HasEndedSo file lines dialogue.Exhausted so_far at_end end told = (end ≡ status.ReadFault) × (told ≡ read_fault_line)
HasEndedSo file lines dialogue.ReaderGone so_far at_end end told = (end ≡ status.ReaderGone) × (told ≡ [])
HasEndedSo file lines dialogue.WriteFault so_far at_end end told = (end ≡ status.WriteFault) × (told ≡ write_fault_line)
HasEndedSo file lines dialogue.NoMemory so_far at_end end told = (end ≡ status.NoMemory) × (told ≡ no_memory_line)

-- A run has ended that answers the stream of a wire behind the bytes of `start`, with what the options ask for: a dialogue was held on the wire,
-- and ended as `how` tells. `start` is the text of a file, if one is named, and else empty. `told` is the line about the run. `l` is the wire
-- before, and `l'` after, and `wire` says what is known of it.
pub record StreamAnswered {L : Type 0} (wire : wires.Ghosts L) (options : WatchOptions) (file : Option (List ℕ)) (start : List ℕ) (end : CoresStatus)
    (told : List ℕ) (l l' : L) : Type 0 where
  pub events : List WireEvent
  pub how : DialogueEnd
  -- Each answer was written as soon as its bytes were read, and none before: those to `start` before the first read.
  pub happened : TellsMore (wire.history l) (wire.history l') events
  pub answered : HasAnswered (behind (reply options) start) (behind (reply_at_end options) start) events how
  -- The status and the line are those of the end of the dialogue.
  pub ended : HasEndedSo file (heard_so_far options.bad_lines start).lines how (outcome (heard_so_far options.bad_lines (start ++ read_in events)))
      (outcome (heard_at_end options.bad_lines (start ++ read_in events))) end told
  -- One call has failed where the dialogue ended by it, and no other.
  pub faults : wire.faults l' ≡ faults_at (wire.faults l) how

-- The bytes in front of a stream: none; or those of a file, all that is known of them, with a newline behind where their last line has not ended; or
-- the start text of a state, where the bytes of the file are the text of that state. What these say the law `a_start_text_tells_its_state` of `kc_state`
-- tells.
abbrev pub StandsInFront : (List ℕ → Option (List ℕ)) → StreamStart → List ℕ → Type 0
StandsInFront known Unbegun start = start ≡ []
StandsInFront known (BegunFrom name) start = (bytes : List ℕ) × IfSome (known name) (λ all. bytes ≡ all) × (start ≡ with_end bytes)
StandsInFront known (BegunFromState name) start =
    (bytes : List ℕ) × IfSome (known name) (λ all. bytes ≡ all) × ((state : KeptParts) × IsStateText bytes state × (start ≡ start_text state))

-- the file in front of a stream was read to its end, if there is one
abbrev pub WasReadInFront : StreamStart → Option (List ℕ) → Type 0
WasReadInFront Unbegun left = ⊤
WasReadInFront (BegunFrom name) left = IsAtEnd left
WasReadInFront (BegunFromState name) left = IsAtEnd left

-- there are more bytes than reads can be counted, where they are known
abbrev pub IsUncounted : Option (List ℕ) → Type 0
IsUncounted known = IfSome known (λ all. 2 ^ 64 - 1 ≤ length all)

-- Why the file in front of a stream is not read, or why it is no state, or that there is no memory. The input's count of faults rose where the file was
-- not opened or a read failed.
abbrev pub NoFrontAt : CoresStatus → List ℕ → (List ℕ → Option (List ℕ)) → StreamStart → ℕ → ℕ → Type 0
NoFrontAt status.Unopened line known (BegunFrom name) before after = (fault : FileFault) × IsUnopenedLine name fault line × Rose before after
NoFrontAt status.Unopened line known (BegunFromState name) before after = (fault : FileFault) × IsUnopenedLine name fault line × Rose before after
NoFrontAt status.ReadFault line known (BegunFrom name) before after = (line ≡ read_fault_line) × (Rose before after ⊎ IsUncounted (known name))
NoFrontAt status.ReadFault line known (BegunFromState name) before after = (line ≡ read_fault_line) × Rose before after
NoFrontAt status.Refused line known (BegunFromState name) before after =
    (fault : StateFault) × (line ≡ state_refused_line name fault) × (after ≡ before)
NoFrontAt status.NoMemory line known start before after = (line ≡ no_memory_line) × (after ≡ before)
NoFrontAt _ line known start before after = ⊥

-- A run has ended that answers the stream of a wire, behind the text of a file where one is named: it has answered both, or the file was not
-- read, and then nothing was read or written on the wire. `i` is the input, which is turned to the file, and `l` the wire, each before and
-- after; `source`, `known` and `wire` say what is known of them.
pub record WatchEnded {I L : Type 0} (source : sources.Ghosts I) (known : I → List ℕ → Option (List ℕ)) (wire : wires.Ghosts L) (query : StreamQuery)
    (end : CoresStatus) (told : List ℕ) (i i' : I) (l l' : L) : Type 0 where
  pub ended : ((start : List ℕ) × StandsInFront (known i) query.start start
      × StreamAnswered wire query.options (file_of query.start) start end told l l' × WasReadInFront query.start (source.left i')
      × (source.faults i' ≡ source.faults i))
      ⊎ (NoFrontAt end told (known i) query.start (source.faults i) (source.faults i') × (l' ≡ l))
  -- Where no file is named, the input is as it was.
  pub untouched : query.start ≡ Unbegun → i' ≡ i
