-- The shifts, the puts of the risen, and then the seals of both.
use Rattle.std.proofs.Common.{◌∙◌}
use Rattle.kc_cert.specs.Local.{firsts}
use Rattle.kc_levels.proofs.Steps.{both-distinct, rise-may, shifted-unsealed, rise-whole, unsealed-put, member-backwards}
use Rattle.kc_levels.proofs.making.make_rise.Goals as goal

pub shift_each-requires-clause-once : goal.shift_each-requires-clause-once
shift_each-requires-clause-once c = (both-distinct c.args.rise.now (firsts c.args.shifts.now) c.requires.once).1

pub raise_each-requires-clause-may : goal.raise_each-requires-clause-may
raise_each-requires-clause-may c = rise-may c.args.levels.now c.shift_each.new.levels c.args.rise.now
    (firsts c.args.shifts.now) _ _ c.requires.may c.requires.once c.shift_each.ensures

pub raise_each-requires-clause-once : goal.raise_each-requires-clause-once
raise_each-requires-clause-once c = (both-distinct c.args.rise.now (firsts c.args.shifts.now) c.requires.once).0

pub seal_each-requires-clause-once : goal.seal_each-requires-clause-once
seal_each-requires-clause-once c = (both-distinct c.args.rise.now (firsts c.args.shifts.now) c.requires.once).0

pub seal_each-requires-clause-moved : goal.seal_each-requires-clause-moved
seal_each-requires-clause-moved c = λ v m. unsealed-put c.shift_each.new.levels c.raise_each.new.levels _ _ _ v c.raise_each.ensures
    (member-backwards v c.args.rise.now ∙ m)

pub seal_shifted-requires-clause-once : goal.seal_shifted-requires-clause-once
seal_shifted-requires-clause-once c = (both-distinct c.args.rise.now (firsts c.args.shifts.now) c.requires.once).1

pub seal_shifted-requires-clause-moved : goal.seal_shifted-requires-clause-moved
seal_shifted-requires-clause-moved c =
    shifted-unsealed c.args.levels.now c.shift_each.new.levels c.raise_each.new.levels c.seal_each.new.levels c.args.rise.now
    (firsts c.args.shifts.now) _ _ _ _ c.requires.once c.shift_each.ensures c.raise_each.ensures c.seal_each.ensures

pub returns : goal.returns
returns c = rise-whole c.args.levels.now c.shift_each.new.levels c.raise_each.new.levels c.seal_each.new.levels c.seal_shifted.new.levels
    c.args.shifts.now c.args.rise.now c.args.level c.shift_each.ensures c.raise_each.ensures c.seal_each.ensures c.seal_shifted.ensures c.requires.fresh
