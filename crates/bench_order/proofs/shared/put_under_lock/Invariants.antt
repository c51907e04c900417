-- The pass keeps its table.
use Rattle.std.proofs.Common.{◌≡◌}
use Rattle.bench_order.proofs.shared.put_under_lock.Given as goal

abbrev pub invariant-loop-x : goal.invariant-loop-x
invariant-loop-x g l = l.pass.table ≡ l.fn.pass.table
