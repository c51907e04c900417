-- The table is that of the words.
use Rattle.std.specs.Prelude.{[]}
use Rattle.kc_table.specs.Log.{no_graph}
use Rattle.kc_order_tests.proofs.racing_arcs.answers_beneath_moves_are_sure_or_again_and_the_last_is_right.Given as goal

abbrev pub ghosts-race : goal.ghosts-race
ghosts-race g a = record { opened = record { table = a.words; edges = no_graph; stamps = [] }; start_edges = no_graph; log = []; entries = [] }
