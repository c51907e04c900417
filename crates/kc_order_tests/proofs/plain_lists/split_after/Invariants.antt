-- The list keeps its size, and the plain one has the place after which items are put.
use Rattle.std.proofs.Common.{◌≡◌, ◌<◌, length}
use Rattle.kc_order_tests.proofs.plain_lists.split_after.Given as goal

abbrev pub invariant-loop-x : goal.invariant-loop-x
invariant-loop-x g l = (l.order.items ≡ 1000) × (l.at < length l.plain.items)
