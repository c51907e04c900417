-- A number that bits tell no place is no id.
use Rattle.std.proofs.Common.{subst}
use Rattle.kc_claims.specs.Places.{ArePlaces}
use Rattle.kc_claims.proofs.BitPlaces.{untold-is-none}
use Rattle.kc_claims.proofs.places.Places.place.Goals as goal

pub returns-in-Bits-clause-none : goal.returns-in-Bits-clause-none
returns-in-Bits-clause-none c =
    untold-is-none c.args.ids.now c.in-Bits.bits.words.items c.in-Bits.bits.ends.items
    (subst (ArePlaces c.args.ids.now) c.in-Bits.is c.requires.placed) c.args.id c.place.result c.place.ensures
