-- What becomes of the keeper becomes of the place.
use Rattle.std.proofs.Common.{refl}
use Rattle.kc_c.proofs.Keepers.{at-place}
use Rattle.kc_c.specs.Keeping.{IsUpdatedBy}
use Rattle.kc_c.specs.Updating.{given_update}
use Rattle.kc_c.proofs.keeping.update_keeper.Goals as goal

pub returns-in-Some : goal.returns-in-Some
returns-in-Some c = (
  at-place (IsUpdatedBy (given_update c.args.u c.args.v c.args.add)) c.args.content.keeper c.in-Some.keeper _ c.make_one-made.new.keeper _ _
      c.in-Some.is refl c.answer_to-in-Some.ensures c.make_one-made.ensures,
  refl,
)
