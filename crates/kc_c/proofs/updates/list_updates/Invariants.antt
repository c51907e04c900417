-- Those before the present one are listed.
use Rattle.std.proofs.Common.{take}
use Rattle.kc_c.specs.Listing.{AreListed}
use Rattle.kc_c.proofs.updates.list_updates.Given as goal

abbrev pub invariant-loop-place : goal.invariant-loop-place
invariant-loop-place l = AreListed (take l.place l.given) l.listed.updates.items l.listed.places.items
