-- The list has the places so far.
use Rattle.std.proofs.Common.{◌≡◌, leb}
use Rattle.kc_keeper.specs.Members.{places_where}
use Rattle.kc_keeper.proofs.members.list_at_least.Given as goal

abbrev pub invariant-loop-place : goal.invariant-loop-place
invariant-loop-place l = l.places.items ≡ places_where (leb l.k) l.numbers l.place
