-- The writer keeps its table.
use Rattle.std.proofs.Common.{◌≡◌}
use Rattle.bench_order.proofs.shared.put_by_writer.Given as goal

abbrev pub invariant-loop-x : goal.invariant-loop-x
invariant-loop-x l = l.writer.table ≡ l.words
