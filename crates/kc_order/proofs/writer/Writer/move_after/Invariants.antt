-- One more of the last members has moved at each turn.
use Rattle.std.proofs.Common.{◌≤◌, drop, length}
use Rattle.kc_order.proofs.RunMoves.{HasMoved}
use Rattle.kc_order.proofs.writer.Writer.move_after.Given as goal

abbrev pub invariant-loop-i : goal.invariant-loop-i
invariant-loop-i l = record {
  within : l.i ≤ length l.run;
  moved : HasMoved l.fn.self l.self (drop l.i l.run) l.p;
}

abbrev pub decreases-loop-i : goal.decreases-loop-i
decreases-loop-i l = l.i
