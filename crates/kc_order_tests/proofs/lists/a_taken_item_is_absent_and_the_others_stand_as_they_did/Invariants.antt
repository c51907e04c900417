-- `K` names the table that was just opened with six items for the short list; of a graph or a run nothing is known.
use Rattle.std.specs.Prelude.{[]}
use Rattle.kc_table.specs.Log.{no_graph}
use Rattle.kc_order_tests.proofs.lists.a_taken_item_is_absent_and_the_others_stand_as_they_did.Given as goal

abbrev pub ghosts-share_a_short_list : goal.ghosts-share_a_short_list
ghosts-share_a_short_list g a = record { opened = record { table = a.words; edges = no_graph; stamps = [] }; start_edges = no_graph; log = []; entries = [] }
