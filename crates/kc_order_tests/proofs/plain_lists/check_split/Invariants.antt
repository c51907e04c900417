-- The list keeps its size.
use Rattle.std.proofs.Common.{◌≡◌}
use Rattle.kc_order_tests.proofs.plain_lists.check_split.Given as goal

abbrev pub invariant-loop-x : goal.invariant-loop-x
invariant-loop-x g l = l.order.items ≡ 100
