-- The table that the journal opened, with its graph and its stamps.
use Rattle.std.specs.Prelude.{[]}
use Rattle.kc_table.specs.Log.{no_graph}
use Rattle.bench_plans.proofs.loose.compare.Given as goal

abbrev pub ghosts-compare_at_rest : goal.ghosts-compare_at_rest
ghosts-compare_at_rest g a = record {
  opened = record { table = a.words.now; edges = a.journal.now.graph; stamps = a.journal.now.edge_stamps };
  start_edges = no_graph;
  log = [];
  entries = [];
}
