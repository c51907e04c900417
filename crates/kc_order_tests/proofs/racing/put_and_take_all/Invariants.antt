-- A round of two puts and a take, and the split that hands it over, leave the pass one of the table.
use Rattle.std.proofs.Common.{◌≡◌}
use Rattle.kc_order_tests.proofs.racing.put_and_take_all.Given as goal

abbrev pub invariant-loop-round : goal.invariant-loop-round
invariant-loop-round g l = l.pass.table ≡ l.fn.pass.table
