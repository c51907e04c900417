-- The numbers so far ascend.
use Rattle.std.proofs.Common.{◌<◌, ◌+◌, ℕ, get_or}
use Rattle.kc_graph.proofs.tidying.ascends.Given as goal

abbrev pub invariant-loop-i : goal.invariant-loop-i
invariant-loop-i l = (k : ℕ) → k + 1 < l.i → get_or l.part k 0 < get_or l.part (k + 1) 0
