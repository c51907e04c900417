-- What a dialogue has written when it ends.
use Rattle.std.specs.Prelude.{◌≡◌, ◌+◌, ◌-◌, ◌^◌, ◌∷◌, ℕ, true, List, []}
use Rattle.kc_wire.specs.Events.{WireEvent, Read, Wrote, read_in, written_in}
use Rattle.kc_wire.specs.Faults.{one_read_more, one_write_more}
use Rattle.kc_wire.specs.declared.faults.WireFaults.{WireFaults}
use Rattle.kc_wire.specs.declared.faults.WriteFault.TheVariants as write
use Rattle.kc_dialogue.specs.Dialogues.{IsAnswered, IsDialogue, has_ended, meant}
use Rattle.kc_dialogue.specs.Replies.{IsPrefixOf, StaysFrom}
use Rattle.kc_dialogue.specs.declared.end.DialogueEnd.{DialogueEnd}
use Rattle.kc_dialogue.specs.declared.end.DialogueEnd.TheVariants as end

-- how many reads there were
abbrev pub reads_in : List WireEvent → ℕ
reads_in [] = 0
reads_in (Read bytes ∷ events) = reads_in events + 1
reads_in (Wrote bytes ∷ events) = reads_in events

-- What was written when a dialogue ends so: the reply to all that was read, as a whole where the input has ended, or a prefix of it
-- where a write failed or memory ended.
abbrev pub HasWrittenAt : (List ℕ → List ℕ) → (List ℕ → List ℕ) → List WireEvent → DialogueEnd → Type 0
HasWrittenAt reply reply_at_end events end.Done = (has_ended events ≡ true) × (written_in events ≡ reply_at_end (read_in events))
HasWrittenAt reply reply_at_end events end.Ended = IsAnswered reply events × StaysFrom reply reply_at_end (read_in events)
HasWrittenAt reply reply_at_end events end.ReadFault = IsAnswered reply events
HasWrittenAt reply reply_at_end events end.Exhausted = IsAnswered reply events × (reads_in events ≡ 2 ^ 64 - 1)
HasWrittenAt reply reply_at_end events end.ReaderGone = IsPrefixOf (meant reply reply_at_end events) (written_in events)
HasWrittenAt reply reply_at_end events end.WriteFault = IsPrefixOf (meant reply reply_at_end events) (written_in events)
HasWrittenAt reply reply_at_end events end.NoMemory = IsPrefixOf (meant reply reply_at_end events) (written_in events)

-- a dialogue was held, and has written what it has to at such an end
pub record HasAnswered (reply reply_at_end : List ℕ → List ℕ) (events : List WireEvent) (how : DialogueEnd) : Type 0 where
  pub dialogue : IsDialogue reply events
  pub written : HasWrittenAt reply reply_at_end events how

-- the counts of faults at such an end: one call more has failed where the end is its fault, and no other
abbrev pub faults_at : WireFaults → DialogueEnd → WireFaults
faults_at faults end.ReadFault = one_read_more faults
faults_at faults end.ReaderGone = one_write_more write.ReaderGone faults
faults_at faults end.WriteFault = one_write_more write.Failed faults
faults_at faults end.Done = faults
faults_at faults end.Ended = faults
faults_at faults end.NoMemory = faults
faults_at faults end.Exhausted = faults
