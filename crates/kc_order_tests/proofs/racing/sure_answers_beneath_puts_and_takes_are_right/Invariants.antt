-- `K` names the table that was just opened for the race, so that both threads put, take and compare in one list.
use Rattle.std.specs.Prelude.{[]}
use Rattle.kc_table.specs.Log.{no_graph}
use Rattle.kc_order_tests.proofs.racing.sure_answers_beneath_puts_and_takes_are_right.Given as goal

abbrev pub ghosts-race : goal.ghosts-race
ghosts-race g a = record { opened = record { table = a.words; edges = no_graph; stamps = [] }; start_edges = no_graph; log = []; entries = [] }
