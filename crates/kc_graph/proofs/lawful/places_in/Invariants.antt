-- Each of the first `place` vertices of the order has its place.
use Rattle.kc_graph.proofs.Places.{PlacedTo}
use Rattle.kc_graph.proofs.lawful.places_in.Given as goal

abbrev pub invariant-loop-place : goal.invariant-loop-place
invariant-loop-place l = PlacedTo l.n l.place l.order l.places.items
