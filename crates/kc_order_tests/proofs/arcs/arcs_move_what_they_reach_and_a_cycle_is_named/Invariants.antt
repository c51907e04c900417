-- The table is that of the words.
use Rattle.std.specs.Prelude.{[]}
use Rattle.kc_table.specs.Log.{no_graph}
use Rattle.kc_order_tests.proofs.arcs.arcs_move_what_they_reach_and_a_cycle_is_named.Given as goal

abbrev pub ghosts-three_vertices : goal.ghosts-three_vertices
ghosts-three_vertices g a = record { opened = record { table = a.words; edges = no_graph; stamps = [] }; start_edges = no_graph; log = []; entries = [] }
