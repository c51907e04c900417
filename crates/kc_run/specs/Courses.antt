-- What contracts see of a course, and what it has come to.
use Rattle.std.specs.Prelude.{◌≡◌, ◌<◌, ◌≤◌, ℕ, List, [], All, length}
use Rattle.kc_graph.specs.declared.update.Update.{Update}
use Rattle.kc_table.specs.Log.{PassSeen, Seen, TableName}
use Rattle.kc_journal.specs.Journals.{Journalled}
use Rattle.kc_journal.specs.declared.answer.Receipt.{Receipt}
use Rattle.kc_queue.specs.declared.consumer.TheConstants.{WORKERS}
use Rattle.kc_batch.specs.Runs.{WentOn}
use Rattle.kc_run.specs.Entered.{AreEnteredInTurn}
use Rattle.kc_run.specs.Receipts.{HasOneEach}

-- the journal, and how many workers there are
pub record Coursed : Type 0 where
  pub journal : Journalled
  pub workers : ℕ

-- There are some workers, no more than may work at a time, and all are of the table of the parts.
pub record AreWorkersOf (words : TableName) (workers : List Seen) : Type 0 where
  pub some : 0 < length workers
  pub few : length workers ≤ WORKERS
  pub table : All (λ w. w.table ≡ words) workers

-- A journal with which a run may begin: nothing was entered, and its table is of version 0 and opened with the edges of the start.
pub record IsBeginning (j : Journalled) : Type 0 where
  pub entries : j.entries ≡ []
  pub base : j.levels.table.shape.base ≡ 0
  pub version : j.levels.table.shape.version ≡ 0
  pub opened : j.opened ≡ j.started

-- The run began so, and came to this journal by working these batches in turn, over these tables that were ended and the journal's own.
-- No more were ended than entries were made. These receipts were given for all that was entered.
pub record HasWorked (batches : List (List Update)) (tables : List PassSeen) (receipts : List Receipt) (j : Journalled) : Type 0 where
  pub begun : Journalled
  pub beginning : IsBeginning begun
  pub went : WentOn begun tables j
  pub few_tables : length tables ≤ length j.entries
  pub entered : AreEnteredInTurn 0 batches j.entries
  pub receipts_are : HasOneEach j.started j.entries (length j.entries) receipts
