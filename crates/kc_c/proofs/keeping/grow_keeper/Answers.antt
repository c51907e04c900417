-- What becomes of the keeper becomes of the place.
use Rattle.std.proofs.Common.{refl}
use Rattle.kc_c.proofs.Keepers.{at-place}
use Rattle.kc_c.specs.Keeping.{IsGrownTo}
use Rattle.kc_c.proofs.keeping.grow_keeper.Goals as goal

pub returns-in-Some : goal.returns-in-Some
returns-in-Some c = (
  at-place (IsGrownTo c.args.vertices) c.args.content.keeper c.in-Some.keeper _ c.add_vertices-added.new.keeper _ _
      c.in-Some.is refl c.answer_to-in-Some.ensures c.add_vertices-added.ensures,
  refl,
)
