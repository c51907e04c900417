-- The list that is shared is that of the words which were opened.
use Rattle.std.specs.Prelude.{[]}
use Rattle.kc_table.specs.Log.{no_graph}
use Rattle.stress_order.proofs.table.work_table.Given as goal

abbrev pub ghosts-race : goal.ghosts-race
ghosts-race g a =
    record { opened = record { table = a.opened.0; edges = no_graph; stamps = [] }; start_edges = no_graph; log = []; entries = [] }
