-- The pass stays one of the table.
use Rattle.std.proofs.Common.{◌≡◌}
use Rattle.kc_order_tests.proofs.racing_arcs.add_all.Given as goal

abbrev pub invariant-loop-k : goal.invariant-loop-k
invariant-loop-k g l = l.pass.table ≡ l.fn.pass.table
