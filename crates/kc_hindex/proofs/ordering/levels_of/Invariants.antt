-- All core numbers so far are below `levels`, which each turn raises to one more than the next of them where it is not above it.
use Rattle.std.proofs.Common.{ℕ, ◌<◌}
use Rattle.kc_graph.specs.Peeling.{at}
use Rattle.kc_hindex.proofs.ordering.levels_of.Given as goal

abbrev pub invariant-loop-number : goal.invariant-loop-number
invariant-loop-number l = (v : ℕ) → v < l.number-index → at l.core v < l.levels
