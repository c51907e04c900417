-- What becomes of the keeper becomes of the place.
use Rattle.std.proofs.Common.{refl}
use Rattle.kc_c.proofs.Keepers.{at-place}
use Rattle.kc_c.specs.Keeping.{AppliesTo}
use Rattle.kc_c.proofs.keeping.apply_updates.Goals as goal

pub returns-in-Some : goal.returns-in-Some
returns-in-Some c =
    at-place (AppliesTo c.args.updates.now c.make_in_turn-made.new.changes.cores.items) c.args.content.keeper c.in-Some.keeper _ c.make_in_turn-made.new.keeper
    _ _ c.in-Some.is refl c.answer_to-in-Some.ensures (record { made = c.make_in_turn-made.ensures.made; told_are = c.make_in_turn-made.ensures.told })
