-- The vertices so far are counted.
use Rattle.std.proofs.Common.{◌≡◌, ◌<◌, ℕ, length}
use Rattle.kc_graph.specs.Peeling.{as_high, at}
use Rattle.kc_tally.proofs.layering.counts_as_high.Given as goal

abbrev pub invariant-loop-v : goal.invariant-loop-v
invariant-loop-v l = (length l.left.items ≡ l.v) × ((u : ℕ) → u < l.v → at l.left.items u ≡ as_high l.graph l.core (at l.core u) u)
