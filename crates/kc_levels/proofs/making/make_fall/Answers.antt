-- All puts of the fallen, and then all seals.
use Rattle.std.proofs.Common.{refl}
use Rattle.kc_levels.proofs.Steps.{puts-then_seals, unsealed-put}
use Rattle.kc_levels.proofs.making.make_fall.Goals as goal

pub seal_each-requires-clause-moved : goal.seal_each-requires-clause-moved
seal_each-requires-clause-moved c = λ v m. unsealed-put c.args.levels.now c.lower_each.new.levels c.args.fall.now _ _ v c.lower_each.ensures m

pub returns : goal.returns
returns c = puts-then_seals c.args.levels.now c.lower_each.new.levels c.seal_each.new.levels c.args.fall.now c.args.fall.now _ _ c.lower_each.ensures
    c.seal_each.ensures c.requires.fresh (λ v. refl)
