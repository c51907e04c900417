-- The pass keeps its table.
use Rattle.std.proofs.Common.{◌≡◌}
use Rattle.stress_order.proofs.table.differs.Given as goal

abbrev pub invariant-loop-first : goal.invariant-loop-first
invariant-loop-first g l = l.pass.table ≡ l.fn.pass.table
