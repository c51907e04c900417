-- The places so far, and then those of the vertices that are left, are those of all.
use Rattle.std.proofs.Common.{◌≡◌, ◌++◌, drop}
use Rattle.kc_snapshot.specs.Histories.{numbers_at as numbers_there}
use Rattle.kc_snapshot.proofs.listing.numbers_at.Given as goal

abbrev pub invariant-loop-v : goal.invariant-loop-v
invariant-loop-v l = l.places.items ++ numbers_there l.core (drop l.v-index l.vertices) ≡ numbers_there l.core l.vertices
