-- What one update leaves in the log, by what its worker has seen before and after, and what each fault means.
use Rattle.std.specs.Prelude.{◌≡◌, ◌<◌, ◌≤◌, ◌+◌, ◌*◌, ⊤, ℕ, List, All, Option, Some, None, Result, Ok, Err, length}
use Rattle.kc_graph.specs.declared.update.Update.{Update}
use Rattle.kc_words.specs.declared.layout.TheConstants.{LAST_VERSION}
use Rattle.kc_table.specs.declared.view.Event.{Event}
use Rattle.kc_table.specs.Log.{TableName}
use Rattle.kc_order.specs.Writers.{IsHighest}
use Rattle.kc_agree.specs.Stamps.{number_of}
use Rattle.kc_levels.specs.declared.levels.TheConstants.{LAST_NUMBER}
use Rattle.kc_journal.specs.declared.answer.EnterFault.{EnterFault}
use Rattle.kc_journal.specs.declared.answer.EnterFault.TheVariants as enter
use Rattle.kc_journal.specs.declared.answer.Receipt.{Receipt}
use Rattle.kc_table.specs.Log.{Opened}
use Rattle.kc_shared.specs.Answers.{IsReceipt}
use Rattle.kc_shared.specs.Misses.{IsTrueMiss}
use Rattle.kc_shared.specs.declared.fault.SharedFault.{SharedFault}
use Rattle.kc_shared.specs.declared.fault.SharedFault.TheVariants as shared
use Rattle.kc_shared.specs.declared.missed.Missed.TheVariants as missed
use Rattle.kc_shared.specs.declared.shared.TheConstants.{MISSES}
use Rattle.kc_workers.specs.declared.attempt.Attempt.{Attempt}
use Rattle.kc_workers.specs.declared.attempt.Attempt.TheVariants as attempt
use Rattle.kc_workers.specs.declared.done.Done.{Done}

-- The update was entered, and its misses were true: at most so many, each from the old log to the new one.
pub record IsUpdateDone (o : Opened) (old new : List Event) (index : ℕ) (update : Update) (done : Done) : Type 0 where
  pub receipt : IsReceipt o old new index update done.receipt
  pub few : length done.misses.items ≤ MISSES
  pub misses : All (IsTrueMiss o old new) done.misses.items

-- the greatest version after the log leaves no room for the stores that an update was found to need
pub record LeavesNoRoom (table : TableName) (log : List Event) (highest needed : ℕ) : Type 0 where
  pub is_highest : IsHighest table log highest
  pub few : needed ≤ 3 * table.shape.fixed
  pub exceeds : LAST_VERSION < highest + needed

-- Each refusal has its cause in the new log. None is for a stale stamp: that is a miss.
abbrev pub HasRefusalCause : Opened → List Event → EnterFault → Type 0
HasRefusalCause o new (enter.Full entries) = (entries ≡ number_of o.table new) × (entries ≡ LAST_NUMBER)
HasRefusalCause o new (enter.Stale vertex edges used now) = ⊥
HasRefusalCause o new (enter.Spent highest needed) = LeavesNoRoom o.table new highest needed
HasRefusalCause o new enter.NoMemory = ⊤

-- The update was refused, which has its cause in the new log; or it was entered, though not told to all.
abbrev pub HasUpdateCause : Opened → List Event → List Event → ℕ → Update → SharedFault → Type 0
HasUpdateCause o old new index update (shared.Enter fault) = HasRefusalCause o new fault
HasUpdateCause o old new index update (shared.Untold receipt) = IsReceipt o old new index update receipt

-- an attempt was entered, or its miss is true
abbrev pub IsAttempt : Opened → List Event → List Event → ℕ → Update → Attempt → Type 0
IsAttempt o old new index update (attempt.Entered receipt) = IsReceipt o old new index update receipt
IsAttempt o old new index update (attempt.Missed miss) = IsTrueMiss o old new miss

-- how many entries an attempt has made
abbrev pub entered_in : Attempt → ℕ
entered_in (attempt.Entered receipt) = 1
entered_in (attempt.Missed miss) = 0

-- how many entries were made where there may be a receipt
abbrev pub entered_of : Option Receipt → ℕ
entered_of None = 0
entered_of (Some receipt) = 1

-- what a fault of the shared state is to an attempt: a stale stamp is a miss, and any other fault is the update's too
abbrev pub told_attempt : SharedFault → Result Attempt SharedFault
told_attempt (shared.Enter (enter.Full entries)) = Err (shared.Enter (enter.Full entries))
told_attempt (shared.Enter (enter.Stale vertex edges used now)) = Ok (attempt.Missed (missed.Stale vertex edges used now))
told_attempt (shared.Enter (enter.Spent highest needed)) = Err (shared.Enter (enter.Spent highest needed))
told_attempt (shared.Enter enter.NoMemory) = Err (shared.Enter enter.NoMemory)
told_attempt (shared.Untold receipt) = Err (shared.Untold receipt)
