-- The places that are left give the list that all of them give.
use Rattle.std.proofs.Common.{◌≡◌, drop}
use Rattle.kc_snapshot.specs.Histories.{changed}
use Rattle.kc_snapshot.proofs.listing.write_all.Given as goal

abbrev pub invariant-loop-place : goal.invariant-loop-place
invariant-loop-place l = changed l.core.items (drop l.place-index l.places.items) ≡ changed l.fn.core.items l.places.items
