-- The list keeps its size, and all its items may be taken.
use Rattle.std.proofs.Common.{◌≡◌}
use Rattle.kc_order_tests.proofs.plain_lists.take_turns.Given as goal

abbrev pub invariant-loop-turn : goal.invariant-loop-turn
invariant-loop-turn g l = (l.order.items ≡ 1000) × (l.order.fixed ≡ 0)
