-- The vertices so far have their places.
use Rattle.std.proofs.Common.{◌≡◌, ◌<◌, ℕ, length}
use Rattle.kc_graph.specs.Peeling.{at}
use Rattle.kc_claims.proofs.placing.places_of.Given as goal

abbrev pub invariant-loop-place : goal.invariant-loop-place
invariant-loop-place l = record {
  size : length l.places.items ≡ length l.order;
  placed : (i : ℕ) → i < l.place → at l.places.items (at l.order i) ≡ i;
}
