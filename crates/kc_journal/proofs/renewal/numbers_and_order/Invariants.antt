-- So many vertices more are made.
use Rattle.std.proofs.Common.{length}
use Rattle.kc_journal.proofs.Restarting.{SoFar}
use Rattle.kc_journal.proofs.renewal.numbers_and_order.Given as goal

abbrev pub invariant-loop-i : goal.invariant-loop-i
invariant-loop-i l = SoFar l.levels.core l.core.items l.order.items (length l.levels.core) l.more l.i
