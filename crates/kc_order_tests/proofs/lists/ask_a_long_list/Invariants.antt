-- A comparison of an item with the one put right before it leaves the pass one of the same table.
use Rattle.std.proofs.Common.{◌≡◌}
use Rattle.kc_order_tests.proofs.lists.ask_a_long_list.Given as goal

abbrev pub invariant-loop-x : goal.invariant-loop-x
invariant-loop-x g l = l.pass.table ≡ l.fn.pass.table
