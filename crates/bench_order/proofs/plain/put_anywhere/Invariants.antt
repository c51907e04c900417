-- The list keeps its size.
use Rattle.std.proofs.Common.{◌≡◌}
use Rattle.bench_order.proofs.plain.put_anywhere.Given as goal

abbrev pub invariant-loop : goal.invariant-loop
invariant-loop l = l.order.items ≡ l.fn.order.items
