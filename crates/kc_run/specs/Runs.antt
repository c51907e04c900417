-- What a run has left, once all its batches were worked.
use Rattle.std.specs.Prelude.{◌≡◌, ◌<◌, ◌≤◌, ◌+◌, List, [], length}
use Rattle.kc_graph.specs.SimpleGraph.{SimpleGraph}
use Rattle.kc_graph.specs.declared.update.Update.{Update}
use Rattle.kc_batch.specs.Batches.{receipts_in}
use Rattle.kc_run.specs.Entered.{AreEnteredInTurn, update_count}
use Rattle.kc_run.specs.Receipts.{HasOneEach}
use Rattle.kc_run.specs.Tables.{AreTables, entries_of}
use Rattle.kc_run.specs.declared.ran.Ran.{Ran}

-- A run from these edges worked these batches in turn. Its tables are there, the first one behind no entries, and no more were ended than
-- there are updates; their entries are the updates of the batches; and each update has one receipt.
pub record HasRun (started : SimpleGraph) (batches : List (List Update)) (ran : Ran) : Type 0 where
  pub some : 0 < length ran.tables.items
  pub tables : AreTables started 0 ran.tables.items
  pub few_tables : length ran.tables.items ≤ update_count batches + 1
  pub entries : AreEnteredInTurn 0 batches (entries_of ran.tables.items)
  pub receipts : HasOneEach started (entries_of ran.tables.items) (update_count batches) (receipts_in ran.shares.items)

-- nothing was run yet
pub record IsEmpty (ran : Ran) : Type 0 where
  pub shares : ran.shares.items ≡ []
  pub tables : ran.tables.items ≡ []
