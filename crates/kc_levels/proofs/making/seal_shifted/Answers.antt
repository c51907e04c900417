-- One seal more at each turn.
use Rattle.std.proofs.Common.{ℕ, get_or, take}
use Rattle.kc_cert.specs.Local.{firsts}
use Rattle.kc_levels.proofs.Steps.{seals-none, seal-may, seal_shifted-next, firsts-at, first-not_before}
use Rattle.kc_levels.proofs.making.seal_shifted.Goals as goal

pub loop-x-init : goal.loop-x-init
loop-x-init c = seals-none c.args.levels.now c.requires.are

pub seal-requires-clause-moved : goal.seal-requires-clause-moved
seal-requires-clause-moved c =
    let v : ℕ = (get_or c.args.shifts.now c.loop-x.x-index (0, 0)).0 in
    seal-may c.args.levels.now c.loop-x.levels (firsts c.args.shifts.now) (firsts (take c.loop-x.x-index c.args.shifts.now)) v c.loop-x.invariant
    (c.requires.moved v (firsts-at c.args.shifts.now c.loop-x.x-index c.loop-x-test.true))
    (first-not_before c.args.shifts.now c.loop-x.x-index c.loop-x-test.true c.requires.once)

pub loop-x-preserved : goal.loop-x-preserved
loop-x-preserved c =
    seal_shifted-next c.args.levels.now c.loop-x.levels c.seal.new.self c.args.shifts.now c.loop-x.x-index c.loop-x-test.true c.requires.once
    c.loop-x.invariant c.seal.ensures
