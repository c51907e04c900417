-- A put right after item 0 leaves the pass one of the table.
use Rattle.std.proofs.Common.{◌≡◌}
use Rattle.kc_order_tests.proofs.lists.put_each_after_0.Given as goal

abbrev pub invariant-loop-x : goal.invariant-loop-x
invariant-loop-x g l = l.pass.table ≡ l.fn.pass.table
