-- What a run of workers leaves of a batch.
use Rattle.std.specs.Prelude.{◌≡◌, List}
use Rattle.kc_graph.specs.SimpleGraph.{SimpleGraph}
use Rattle.kc_graph.specs.declared.update.Update.{Update}
use Rattle.kc_table.specs.declared.entry.Entry.{Entry}
use Rattle.kc_table.specs.Edges.{after_entries}
use Rattle.kc_batch_effects.specs.Entered.{IsOrderOf}

-- The updates of the batch were entered in this graph, each once, in some order.
pub record IsWorked (old : SimpleGraph) (batch : List Update) (new : SimpleGraph) : Type 0 where
  pub made : List Entry
  pub order : IsOrderOf 0 batch made
  pub graph : new ≡ after_entries old made
