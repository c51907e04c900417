-- The entries so far are their own places.
use Rattle.std.proofs.Common.{◌≡◌, ◌<◌, ℕ}
use Rattle.kc_graph.specs.Peeling.{at}
use Rattle.kc_claims.proofs.placing.are_own_places.Given as goal

abbrev pub invariant-loop-place : goal.invariant-loop-place
invariant-loop-place l = (i : ℕ) → i < l.place → at l.column i ≡ i
