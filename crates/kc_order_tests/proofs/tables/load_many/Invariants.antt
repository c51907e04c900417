-- The pass stays one of the table that it began with.
use Rattle.std.proofs.Common.{◌≡◌}
use Rattle.kc_order_tests.proofs.tables.load_many.Given as goal

abbrev pub invariant-loop : goal.invariant-loop
invariant-loop l = l.pass.table ≡ l.fn.pass.table
