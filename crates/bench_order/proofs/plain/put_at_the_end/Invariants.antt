-- The list keeps its size.
use Rattle.std.proofs.Common.{◌≡◌}
use Rattle.bench_order.proofs.plain.put_at_the_end.Given as goal

abbrev pub invariant-loop-x : goal.invariant-loop-x
invariant-loop-x l = l.order.items ≡ l.fn.order.items
