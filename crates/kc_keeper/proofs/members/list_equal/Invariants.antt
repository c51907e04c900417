-- The list has the places so far.
use Rattle.std.proofs.Common.{◌≡◌, eqb}
use Rattle.kc_keeper.specs.Members.{places_where}
use Rattle.kc_keeper.proofs.members.list_equal.Given as goal

abbrev pub invariant-loop-place : goal.invariant-loop-place
invariant-loop-place l = l.places.items ≡ places_where (eqb l.k) l.numbers l.place
