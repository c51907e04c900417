-- The list keeps its size, and the item after which others are put is one of it.
use Rattle.std.proofs.Common.{◌≡◌, ◌<◌}
use Rattle.kc_order_tests.proofs.plain_lists.split_the_last.Given as goal

abbrev pub invariant-loop-round : goal.invariant-loop-round
invariant-loop-round g l = (l.order.items ≡ 1000) × (l.p < 1000)
