-- Each of the vertices so far has its degree, which counts its neighbours while none is taken.
use Rattle.std.proofs.Common.{◌≡◌, ◌<◌, ℕ, length, []}
use Rattle.kc_graph.specs.Peeling.{at, remaining}
use Rattle.kc_flat.proofs.peeling.degrees_of.Given as goal

abbrev pub invariant-loop-v : goal.invariant-loop-v
invariant-loop-v l = (length l.degrees.items ≡ l.v) × ((u : ℕ) → u < l.v → at l.degrees.items u ≡ remaining l.graph [] u)
