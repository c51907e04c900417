-- The item before is one of the list's numbers.
use Rattle.std.proofs.Common.{◌<◌}
use Rattle.kc_order_tests.proofs.plain_lists.check_order.Given as goal

abbrev pub invariant-loop-x : goal.invariant-loop-x
invariant-loop-x g l = l.before < 1000
