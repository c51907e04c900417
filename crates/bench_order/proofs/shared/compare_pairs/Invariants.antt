-- The pass keeps its table.
use Rattle.std.proofs.Common.{◌≡◌}
use Rattle.bench_order.proofs.shared.compare_pairs.Given as goal

abbrev pub invariant-loop : goal.invariant-loop
invariant-loop l = l.pass.table ≡ l.fn.pass.table
