-- The list that is shared is that of the words which were opened.
use Rattle.std.specs.Prelude.{[]}
use Rattle.kc_table.specs.Log.{no_graph}
use Rattle.bench_order.proofs.measure_shared.Given as goal

abbrev pub ghosts-put_under_lock : goal.ghosts-put_under_lock
ghosts-put_under_lock g a =
    record { opened = record { table = a.words; edges = no_graph; stamps = [] }; start_edges = no_graph; log = []; entries = [] }
