-- Each of the degrees so far is below `levels`.
use Rattle.std.proofs.Common.{ℕ, ◌<◌}
use Rattle.kc_graph.specs.Peeling.{at}
use Rattle.kc_graph.proofs.peeling.levels_of.Given as goal

abbrev pub invariant-loop-degree : goal.invariant-loop-degree
invariant-loop-degree l = (v : ℕ) → v < l.degree-index → at l.degrees v < l.levels
