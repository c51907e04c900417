-- What becomes of the file of states while a stream is answered.
use Rattle.std.specs.Prelude.{◌≡◌, ◌<◌, ◌+◌, ◌++◌, ◌⊎◌, ℕ, List, Option, None, Some, max}
use Rattle.kc_io.specs.Causes.{Rose}
use Rattle.kc_files.specs.Folders.{HasBytes, Held}
use Rattle.kc_wire.specs.Events.{WireEvent, read_in, written_in}
use Rattle.kc_wire.specs.declared.faults.WireFaults.{WireFaults}
use Rattle.kc_dialogue.specs.Dialogues.{IsDialogue, meant}
use Rattle.kc_dialogue.specs.Endings.{HasAnswered, faults_at}
use Rattle.kc_dialogue.specs.Openings.{behind}
use Rattle.kc_dialogue.specs.declared.end.DialogueEnd.{DialogueEnd}
use Rattle.kc_dialogue.specs.declared.end.DialogueEnd.TheVariants as end
use Rattle.kc_graph.specs.Lawful.{IsCertified, Ranked}
use Rattle.kc_stream.specs.Hearing.{heard_at_end, heard_so_far}
use Rattle.kc_stream.specs.declared.bad_lines.BadLines.{BadLines}
use Rattle.kc_state.specs.Texts.{state_text}
use Rattle.kc_watch.specs.Accounts.{Account}
use Rattle.kc_watch.specs.States.{account_at_end, account_so_far, ended_in}
use Rattle.kc_watch.specs.Text.{reply, reply_at_end}
use Rattle.kc_watch.specs.Watching.{HasEnded, WasFed}
use Rattle.kc_watch.specs.declared.options.WatchOptions.{WatchOptions}
use Rattle.kc_watch.specs.declared.watcher.Watcher.{Watcher}
use Rattle.kc_saving.specs.declared.end.SavingEnd.{SavingEnd}
use Rattle.kc_saving.specs.declared.end.SavingEnd.TheVariants.{Dialogue, Unsaved}

-- A text is that of a state of an account: of its batches, its ids and its graph, with the core numbers and some order that certifies them.
pub record IsTextOfAccount (account : Account) (text : List ℕ) : Type 0 where
  pub ranked : Ranked
  pub certified : IsCertified ranked
  pub graph_is : ranked.graph ≡ account.graph
  pub text_is : text ≡ state_text (record { batches = account.ended; ids = account.ids; ranked = ranked })

-- the file has the text of a state of an account, where its bytes are told
abbrev pub HoldsAccount : Held → Account → Type 0
HoldsAccount held account = (text : List ℕ) × IsTextOfAccount account text × HasBytes held text

-- all files but one are as they were
abbrev pub OthersSame : List ℕ → (List ℕ → Held) → (List ℕ → Held) → Type 0
OthersSame file before now = (name : List ℕ) → (name ≡ file → ⊥) → now name ≡ before name

-- The file has the state that some front of these bytes means, behind its last ended batch; so many batches had ended there.
pub record IsSavedBehind (bad : BadLines) (held : Held) (read : List ℕ) (saved : ℕ) : Type 0 where
  pub front : List ℕ
  pub rest : List ℕ
  pub parts : read ≡ front ++ rest
  pub account : Account
  pub account_is : account_so_far bad front ≡ Some account
  pub count : saved ≡ account.ended
  pub has : HoldsAccount held account

-- The file at a moment at which these bytes were read: a state was saved at an earlier one, behind so many batches, or none was yet, and it is as
-- before. Other files are as before.
pub record HoldsSave (file : List ℕ) (bad : BadLines) (before now : List ℕ → Held) (read : List ℕ) (saved : ℕ) : Type 0 where
  pub others : OthersSame file before now
  pub own : IsSavedBehind bad (now file) read saved ⊎ ((now file ≡ before file) × (saved ≡ 0))

-- fewer than so many batches have ended since the last save, where a number is set; 0 is taken for 1
abbrev pub IsRecent : Option ℕ → BadLines → List ℕ → ℕ → Type 0
IsRecent every bad read saved =
    (n : ℕ) → every ≡ Some n → (heard_so_far bad read).refusal ≡ None → ended_in (account_so_far bad read) < saved + max n 1

-- The file at an end of the dialogue: as some save left it. Where more was asked for last, that was not too long ago.
abbrev pub IsKeptAt : List ℕ → Option ℕ → BadLines → (List ℕ → Held) → (List ℕ → Held) → List ℕ → DialogueEnd → Type 0
IsKeptAt file every bad before now read how =
    (saved : ℕ) × HoldsSave file bad before now read saved × (how ≡ end.ReadFault → IsRecent every bad read saved)

-- The file where the stream has ended with these bytes: it has the state behind all batches, unless a line has ended the reading.
pub record IsKeptAtEnd (file : List ℕ) (bad : BadLines) (before now : List ℕ → Held) (read : List ℕ) : Type 0 where
  pub whole : (heard_at_end bad read).refusal ≡ None → OthersSame file before now × HoldsAccount (now file) (account_at_end bad read)
  pub refused : ((heard_at_end bad read).refusal ≡ None → ⊥) → (saved : ℕ) × HoldsSave file bad before now read saved

-- all that was read was answered, and no more was written
abbrev pub HasAnsweredAll : (List ℕ → List ℕ) → (List ℕ → List ℕ) → List WireEvent → Type 0
HasAnsweredAll reply reply_at_end events = IsDialogue reply events × (written_in events ≡ meant reply reply_at_end events)

-- the file at each end of the dialogue
abbrev pub IsFileAt : List ℕ → Option ℕ → BadLines → (List ℕ → Held) → (List ℕ → Held) → List ℕ → DialogueEnd → Type 0
IsFileAt file every bad before now read end.Done = IsKeptAtEnd file bad before now read
IsFileAt file every bad before now read how = IsKeptAt file every bad before now read how

-- What was answered, and what the file has, at each end of a dialogue whose states are saved. `start` was fed before anything was read.
abbrev pub HasKeptAt : WatchOptions → List ℕ → Option ℕ → (List ℕ → Held) → (List ℕ → Held) → List ℕ → List WireEvent → SavingEnd → Type 0
HasKeptAt options file every before now start events (Dialogue how) =
    HasAnswered (behind (reply options) start) (behind (reply_at_end options) start) events how
    × IsFileAt file every options.bad_lines before now (start ++ read_in events) how
HasKeptAt options file every before now start events (Unsaved unplaced) =
    HasAnsweredAll (behind (reply options) start) (behind (reply_at_end options) start) events
    × ((saved : ℕ) × HoldsSave file options.bad_lines before now (start ++ read_in events) saved)

-- The same, and the watcher was fed all that was read where a line has ended the reading, and was told the end of it where the stream has ended.
abbrev pub HasKept : WatchOptions → List ℕ → Option ℕ → (List ℕ → Held) → (List ℕ → Held) → List ℕ → Watcher → List WireEvent → SavingEnd → Type 0
HasKept options file every before now start watcher events how =
    HasKeptAt options file every before now start events how
    × (how ≡ Dialogue end.Ended → WasFed watcher (start ++ read_in events)) × (how ≡ Dialogue end.Done → HasEnded watcher (start ++ read_in events))

-- the counts of faults of the wire at such an end
abbrev pub wire_faults_at : WireFaults → SavingEnd → WireFaults
wire_faults_at faults (Dialogue how) = faults_at faults how
wire_faults_at faults (Unsaved unplaced) = faults

-- the count of faults of the folder at such an end: it rose where a state was not saved, and else it is as it was
abbrev pub FolderFaultsAt : ℕ → ℕ → SavingEnd → Type 0
FolderFaultsAt before after (Dialogue how) = after ≡ before
FolderFaultsAt before after (Unsaved unplaced) = Rose before after
