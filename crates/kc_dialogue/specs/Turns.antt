-- What one turn of a dialogue adds: the steps of the proof that it goes on as a dialogue.
use Rattle.std.specs.Prelude.{◌≡◌, ◌++◌, ℕ, List, Option, None, Some}
use Rattle.kc_wire.specs.Events.{TellsMore, WireEvent, read_in}
use Rattle.kc_wire.specs.declared.faults.WireFaults.{WireFaults}
use Rattle.kc_wire.specs.declared.faults.WriteFault.{WriteFault}
use Rattle.kc_wire.specs.declared.faults.WriteFault.TheVariants as write
use Rattle.kc_dialogue.specs.Dialogues.{IsAnswered, IsDialogue}
use Rattle.kc_dialogue.specs.Endings.{HasAnswered, faults_at, reads_in}
use Rattle.kc_dialogue.specs.Replies.{IsPrefixOf, StaysFrom}
use Rattle.kc_dialogue.specs.declared.end.DialogueEnd.{DialogueEnd}
use Rattle.kc_dialogue.specs.declared.end.DialogueEnd.TheVariants as end

-- the end that a fault of a write brings
abbrev pub end_by : WriteFault → DialogueEnd
end_by write.ReaderGone = end.ReaderGone
end_by write.Failed = end.WriteFault

-- what was written after a piece that was fed behind these bytes
abbrev pub HasAdded : (List ℕ → List ℕ) → (List ℕ → List ℕ) → List ℕ → List ℕ → List ℕ → Option DialogueEnd → Type 0
HasAdded reply reply_at_end fed piece text None = reply (fed ++ piece) ≡ reply fed ++ text
HasAdded reply reply_at_end fed piece text (Some end.Ended) = (reply (fed ++ piece) ≡ reply fed ++ text) × StaysFrom reply reply_at_end (fed ++ piece)
HasAdded reply reply_at_end fed piece text (Some end.ReaderGone) = IsPrefixOf (reply (fed ++ piece)) (reply fed ++ text)
HasAdded reply reply_at_end fed piece text (Some end.WriteFault) = IsPrefixOf (reply (fed ++ piece)) (reply fed ++ text)
HasAdded reply reply_at_end fed piece text (Some end.NoMemory) = IsPrefixOf (reply (fed ++ piece)) (reply fed ++ text)
HasAdded reply reply_at_end fed piece text (Some end.Done) = ⊥
HasAdded reply reply_at_end fed piece text (Some end.ReadFault) = ⊥
HasAdded reply reply_at_end fed piece text (Some end.Exhausted) = ⊥

-- what was written after the end of an input of these bytes
abbrev pub HasAddedAtEnd : (List ℕ → List ℕ) → (List ℕ → List ℕ) → List ℕ → List ℕ → DialogueEnd → Type 0
HasAddedAtEnd reply reply_at_end fed text end.Done = reply_at_end fed ≡ reply fed ++ text
HasAddedAtEnd reply reply_at_end fed text end.ReaderGone = IsPrefixOf (reply_at_end fed) (reply fed ++ text)
HasAddedAtEnd reply reply_at_end fed text end.WriteFault = IsPrefixOf (reply_at_end fed) (reply fed ++ text)
HasAddedAtEnd reply reply_at_end fed text end.NoMemory = IsPrefixOf (reply_at_end fed) (reply fed ++ text)
HasAddedAtEnd reply reply_at_end fed text end.Ended = ⊥
HasAddedAtEnd reply reply_at_end fed text end.ReadFault = ⊥
HasAddedAtEnd reply reply_at_end fed text end.Exhausted = ⊥

-- a dialogue goes on: all is answered, and the replier, which was fed these bytes, was fed all that was read
pub record IsGoing (reply : List ℕ → List ℕ) (WasFed : List ℕ → Type 0) (events : List WireEvent) : Type 0 where
  pub dialogue : IsDialogue reply events
  pub answered : IsAnswered reply events
  pub fed : WasFed (read_in events)

-- a dialogue goes on after a turn, or has ended: the replier was fed all that was read where it ended that, or was told the end of it
abbrev pub HasTurned : (List ℕ → List ℕ) → (List ℕ → List ℕ) → (List ℕ → Type 0) → (List ℕ → Type 0) → List WireEvent → Option DialogueEnd → Type 0
HasTurned reply reply_at_end WasFed HasEnded events None = IsGoing reply WasFed events
HasTurned reply reply_at_end WasFed HasEnded events (Some how) = HasAnswered reply reply_at_end events how
    × (how ≡ end.Ended → WasFed (read_in events)) × (how ≡ end.Done → HasEnded (read_in events))

-- One turn between two histories: whatever dialogue goes on before it, the turn goes on with it by one read, or ends it.
abbrev pub IsTurn : (List ℕ → List ℕ) → (List ℕ → List ℕ) → (List ℕ → Type 0) → (List ℕ → Type 0) → (List ℕ → Type 0)
    → Option (List WireEvent) → Option (List WireEvent) → Option DialogueEnd → Type 0
IsTurn reply reply_at_end WasFed IsFed HasEnded old new how = (before : List WireEvent) → IsGoing reply WasFed before
    → (events : List WireEvent) × TellsMore old new events × HasTurned reply reply_at_end IsFed HasEnded (before ++ events) how
    × (how ≡ None → reads_in events ≡ 1)

-- the counts of faults after a turn
abbrev pub faults_after_turn : WireFaults → Option DialogueEnd → WireFaults
faults_after_turn faults None = faults
faults_after_turn faults (Some how) = faults_at faults how
