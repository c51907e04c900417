-- The pass stays one of the table.
use Rattle.std.proofs.Common.{◌≡◌}
use Rattle.kc_order_tests.proofs.telling.compare_told.Given as goal

abbrev pub invariant-loop : goal.invariant-loop
invariant-loop g l = l.pass.table ≡ l.fn.pass.table

abbrev pub invariant-loop-k : goal.invariant-loop-k
invariant-loop-k g l = l.pass.table ≡ l.fn.pass.table
