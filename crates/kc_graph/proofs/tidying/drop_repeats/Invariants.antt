-- The different ones of the numbers so far are at the front, and the rest is as it was.
use Rattle.std.proofs.Common.{◌≡◌, length}
use Rattle.kc_graph.proofs.Repeats.{Dropped}
use Rattle.kc_graph.proofs.tidying.drop_repeats.Given as goal

abbrev pub invariant-loop-i : goal.invariant-loop-i
invariant-loop-i l = (length l.part ≡ length l.initial.part) × Dropped l.initial.part l.part l.i l.kept
