-- One seal more at each turn.
use Rattle.std.proofs.Common.{ℕ, get_or, take}
use Rattle.kc_lists.proofs.Counting.{member-get_or, take-not_here}
use Rattle.kc_levels.proofs.Steps.{seals-none, seal-may, seal-next}
use Rattle.kc_levels.proofs.making.seal_each.Goals as goal

pub loop-v-init : goal.loop-v-init
loop-v-init c = seals-none c.args.levels.now c.requires.are

pub seal-requires-clause-moved : goal.seal-requires-clause-moved
seal-requires-clause-moved c =
    let v : ℕ = get_or c.args.vertices.now c.loop-v.v-index 0 in
    seal-may c.args.levels.now c.loop-v.levels c.args.vertices.now (take c.loop-v.v-index c.args.vertices.now) v c.loop-v.invariant
    (c.requires.moved v (member-get_or c.args.vertices.now c.loop-v.v-index 0 c.loop-v-test.true))
    (take-not_here c.loop-v.v-index c.args.vertices.now c.loop-v-test.true c.requires.once)

pub loop-v-preserved : goal.loop-v-preserved
loop-v-preserved c =
    seal-next c.args.levels.now c.loop-v.levels c.seal.new.self c.args.vertices.now c.loop-v.v-index c.loop-v-test.true c.requires.once
    c.loop-v.invariant c.seal.ensures
