-- The table is that of the words.
use Rattle.std.specs.Prelude.{[]}
use Rattle.kc_table.specs.Log.{no_graph}
use Rattle.kc_order_tests.proofs.telling.three_threads_find_each_arc_as_they_were_told.Given as goal

abbrev pub ghosts-tell_three : goal.ghosts-tell_three
ghosts-tell_three g a = record { opened = record { table = a.words; edges = no_graph; stamps = [] }; start_edges = no_graph; log = []; entries = [] }
