-- One more has fallen at each turn, behind the others.
use Rattle.std.proofs.Common.{get_or, ap, arith}
use Rattle.kc_lists.proofs.Counting.{member-get_or}
use Rattle.kc_table.specs.Log.{TableName}
use Rattle.kc_levels.proofs.Steps.{fall-none, lower-may, lower-next}
use Rattle.kc_levels.proofs.making.lower_each.Goals as goal

pub loop-v-init : goal.loop-v-init
loop-v-init c = fall-none c.args.levels.now c.args.level c.requires.may.are

pub overflow_sub-level : goal.overflow_sub-level
overflow_sub-level c = (c.requires.room (get_or c.args.fall.now c.loop-v.v-index 0) (member-get_or c.args.fall.now c.loop-v.v-index 0 c.loop-v-test.true)).0

pub to_back-requires-clause-may : goal.to_back-requires-clause-may
to_back-requires-clause-may c =
    (lower-may c.args.levels.now c.loop-v.levels c.args.fall.now c.loop-v.v-index c.args.level c.requires.may c.requires.once c.loop-v-test.true
    c.loop-v.invariant).0

pub to_back-requires-clause-versions : goal.to_back-requires-clause-versions
to_back-requires-clause-versions c =
    (lower-may c.args.levels.now c.loop-v.levels c.args.fall.now c.loop-v.v-index c.args.level c.requires.may c.requires.once c.loop-v-test.true
    c.loop-v.invariant).1

pub to_back-requires-clause-level : goal.to_back-requires-clause-level
to_back-requires-clause-level c =
    let room = c.requires.room (get_or c.args.fall.now c.loop-v.v-index 0) (member-get_or c.args.fall.now c.loop-v.v-index 0 c.loop-v-test.true) in
    omega (arith, room.0, room.1, ap (λ (t : TableName). t.shape.fixed) c.loop-v.invariant.table)

pub loop-v-preserved : goal.loop-v-preserved
loop-v-preserved c =
    lower-next c.args.levels.now c.loop-v.levels c.to_back.new.self c.args.fall.now c.loop-v.v-index c.args.level _ c.requires.may c.requires.once
    c.loop-v-test.true
    (c.requires.room (get_or c.args.fall.now c.loop-v.v-index 0)
    (member-get_or c.args.fall.now c.loop-v.v-index 0 c.loop-v-test.true)).0 c.loop-v.invariant c.to_back.ensures
