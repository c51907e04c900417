-- `K` names the table that was just opened with item 0 alone in its list, so what one thread hands over is of the other's table.
use Rattle.std.specs.Prelude.{[]}
use Rattle.kc_table.specs.Log.{no_graph}
use Rattle.kc_order_tests.proofs.handing.an_item_of_which_a_thread_was_told_is_never_absent_and_never_turned.Given as goal

abbrev pub ghosts-put_and_meet : goal.ghosts-put_and_meet
ghosts-put_and_meet g a = record { opened = record { table = a.words; edges = no_graph; stamps = [] }; start_edges = no_graph; log = []; entries = [] }
