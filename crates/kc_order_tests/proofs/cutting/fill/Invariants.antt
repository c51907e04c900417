-- Each put that fills the second half of the group, and the comparison in it, leave writer and pass those of the table.
use Rattle.std.proofs.Common.{◌≡◌}
use Rattle.kc_order_tests.proofs.cutting.fill.Given as goal

abbrev pub invariant-loop-x : goal.invariant-loop-x
invariant-loop-x g l = (l.writer.table ≡ l.words) × (l.pass.table ≡ l.words)
