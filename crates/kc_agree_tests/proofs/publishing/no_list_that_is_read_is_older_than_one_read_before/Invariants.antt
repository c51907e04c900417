-- K names the table of the words, and the graph and the stamps that it opened with.
use Rattle.std.specs.Prelude.{[]}
use Rattle.kc_table.specs.Log.{no_graph}
use Rattle.kc_agree_tests.proofs.publishing.no_list_that_is_read_is_older_than_one_read_before.Given as goal

abbrev pub ghosts-publish_and_read : goal.ghosts-publish_and_read
ghosts-publish_and_read g a = record {
  opened = record { table = a.words.now; edges = a.graph.now; stamps = a.at.now.items };
  start_edges = no_graph;
  log = [];
  entries = [];
}
