-- None of the first `i` neighbours of `u` is `v`.
use Rattle.std.proofs.Common.{◌≢◌, ◌<◌, ℕ, get_or}
use Rattle.kc_graph.specs.Neighbours.{neighbours_of}
use Rattle.kc_cert.proofs.local.are_adjacent.Given as goal

abbrev pub invariant-loop-i : goal.invariant-loop-i
invariant-loop-i g l = (k : ℕ) → k < l.i → get_or (neighbours_of (g.S.State.state l.state).graph l.u) k 0 ≢ l.v
