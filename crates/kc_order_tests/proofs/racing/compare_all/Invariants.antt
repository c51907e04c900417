-- The pass stays one of the table, and no round is learnt of that comes after the last, 30,000.
use Rattle.std.proofs.Common.{◌≡◌, ◌≤◌}
use Rattle.kc_order_tests.proofs.racing.compare_all.Given as goal

abbrev pub invariant-loop : goal.invariant-loop
invariant-loop g l = (l.pass.table ≡ l.fn.pass.table) × (l.told.round ≤ 30000)
