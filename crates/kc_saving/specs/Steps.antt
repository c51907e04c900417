-- What a save does, and what turns leave.
use Rattle.std.specs.Prelude.{◌≡◌, ◌⊎◌, ◌++◌, ℕ, List, Option, None, Some, Result, Ok, Err}
use Rattle.kc_io.specs.Causes.{Rose}
use Rattle.kc_files.specs.Folders.{Held}
use Rattle.kc_wire.specs.Events.{WireEvent, read_in}
use Rattle.kc_wire.specs.declared.faults.WireFaults.{WireFaults}
use Rattle.kc_dialogue.specs.Dialogues.{IsAnswered, IsDialogue}
use Rattle.kc_dialogue.specs.Endings.{HasAnswered, faults_at}
use Rattle.kc_dialogue.specs.Openings.{behind}
use Rattle.kc_dialogue.specs.declared.end.DialogueEnd.{DialogueEnd}
use Rattle.kc_dialogue.specs.declared.end.DialogueEnd.TheVariants as end
use Rattle.kc_stream.specs.Hearing.{heard_at_end, heard_so_far}
use Rattle.kc_watch.specs.Accounts.{Account}
use Rattle.kc_watch.specs.States.{account_at_end, account_so_far}
use Rattle.kc_watch.specs.Text.{reply, reply_at_end}
use Rattle.kc_watch.specs.Watching.{HasEnded, WasFed}
use Rattle.kc_watch.specs.declared.options.WatchOptions.{WatchOptions}
use Rattle.kc_watch.specs.declared.watcher.Watcher.{Watcher}
use Rattle.kc_saving.specs.Saving.{HoldsAccount, HoldsSave, IsKeptAt, OthersSame}
use Rattle.kc_saving.specs.declared.end.SavingEnd.{SavingEnd}
use Rattle.kc_saving.specs.declared.end.SavingEnd.TheVariants.{Dialogue, Unsaved}
use Rattle.kc_saving.specs.declared.fault.SaveFault.{SaveFault}
use Rattle.kc_saving.specs.declared.fault.SaveFault.TheVariants as fault

-- A watcher keeps this account: it was fed bytes that mean it, or the stream has ended with them, and no line has ended the reading.
abbrev pub WatchesAccount : Watcher → Option Account → Type 0
WatchesAccount watcher account = (fed : List ℕ)
    × ((WasFed watcher fed × ((heard_so_far watcher.options.bad_lines fed).refusal ≡ None) × (account ≡ account_so_far watcher.options.bad_lines fed))
    ⊎ (HasEnded watcher fed × ((heard_at_end watcher.options.bad_lines fed).refusal ≡ None)
    × (account ≡ Some (account_at_end watcher.options.bad_lines fed))))

-- what a save leaves of an account; where there is none, all is as it was
abbrev pub IsSaved : List ℕ → (List ℕ → Held) → (List ℕ → Held) → Option Account → Type 0
IsSaved file before now None = (name : List ℕ) → now name ≡ before name
IsSaved file before now (Some account) = OthersSame file before now × HoldsAccount (now file) account

-- the count of faults of a folder after a save
abbrev pub HasSaveCause : {T : Type 0} → ℕ → ℕ → Result T SaveFault → Type 0
HasSaveCause before after (Ok done) = after ≡ before
HasSaveCause before after (Err fault.NoMemory) = after ≡ before
HasSaveCause before after (Err (fault.Unplaced unplaced)) = Rose before after

-- what turns leave: the dialogue has ended, or a state was not saved and all is answered
abbrev pub HasTurnedSaving : WatchOptions → List ℕ → Option ℕ → (List ℕ → Held) → (List ℕ → Held) → List ℕ → Watcher → List WireEvent
    → Result DialogueEnd SaveFault → Type 0
HasTurnedSaving options file every before now start watcher events (Ok how) =
    HasAnswered (behind (reply options) start) (behind (reply_at_end options) start) events how
    × (how ≡ end.Ended → WasFed watcher (start ++ read_in events)) × (how ≡ end.Done → HasEnded watcher (start ++ read_in events))
    × IsKeptAt file every options.bad_lines before now (start ++ read_in events) how
HasTurnedSaving options file every before now start watcher events (Err fault) =
    IsDialogue (behind (reply options) start) events × IsAnswered (behind (reply options) start) events
    × ((saved : ℕ) × HoldsSave file options.bad_lines before now (start ++ read_in events) saved)

-- the counts of faults of the wire after turns
abbrev pub faults_after_turns : WireFaults → Result DialogueEnd SaveFault → WireFaults
faults_after_turns faults (Ok how) = faults_at faults how
faults_after_turns faults (Err fault) = faults

-- the end that a fault of a save brings
abbrev pub end_by_fault : SaveFault → SavingEnd
end_by_fault fault.NoMemory = Dialogue end.NoMemory
end_by_fault (fault.Unplaced unplaced) = Unsaved unplaced
