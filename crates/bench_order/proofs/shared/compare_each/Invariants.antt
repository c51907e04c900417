-- The pass keeps its table.
use Rattle.std.proofs.Common.{◌≡◌}
use Rattle.bench_order.proofs.shared.compare_each.Given as goal

abbrev pub invariant-loop-x : goal.invariant-loop-x
invariant-loop-x l = l.pass.table ≡ l.fn.pass.table
