-- `K` names the table that was just opened for the long list, with item 0 alone in it and room for all puts.
use Rattle.std.specs.Prelude.{[]}
use Rattle.kc_table.specs.Log.{no_graph}
use Rattle.kc_order_tests.proofs.lists.many_puts_after_the_first_item_stand_from_the_last_to_the_first.Given as goal

abbrev pub ghosts-share_a_long_list : goal.ghosts-share_a_long_list
ghosts-share_a_long_list g a = record { opened = record { table = a.words; edges = no_graph; stamps = [] }; start_edges = no_graph; log = []; entries = [] }
