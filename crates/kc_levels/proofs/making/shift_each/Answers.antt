-- One shift more at each turn.
use Rattle.std.proofs.Common.{ℕ, get_or, ap, arith, refl}
use Rattle.kc_table.specs.Log.{TableName}
use Rattle.kc_cert.proofs.Turns.{seconds-at}
use Rattle.kc_levels.proofs.Steps.{puts-none, shift-may, shift-step, firsts-at, turn-differs}
use Rattle.kc_levels.proofs.making.shift_each.Goals as goal

pub loop-x-init : goal.loop-x-init
loop-x-init c = puts-none c.args.levels.now c.requires.may.are

pub shift_after-requires-clause-may : goal.shift_after-requires-clause-may
shift_after-requires-clause-may c =
    (shift-may c.args.levels.now c.loop-x.levels c.args.shifts.now c.loop-x.x-index c.requires.may c.requires.once c.loop-x-test.true c.loop-x.invariant).0

pub shift_after-requires-clause-versions : goal.shift_after-requires-clause-versions
shift_after-requires-clause-versions c =
    (shift-may c.args.levels.now c.loop-x.levels c.args.shifts.now c.loop-x.x-index c.requires.may c.requires.once c.loop-x-test.true c.loop-x.invariant).1

pub shift_after-requires-clause-other : goal.shift_after-requires-clause-other
shift_after-requires-clause-other c =
    let w : ℕ = (get_or c.args.shifts.now c.loop-x.x-index (0, 0)).1 in
    omega (
      arith,
      c.requires.seconds w (seconds-at c.args.shifts.now c.loop-x.x-index c.loop-x-test.true),
      ap (λ (t : TableName). t.shape.fixed) c.loop-x.invariant.table,
    )

pub shift_after-requires-clause-differ : goal.shift_after-requires-clause-differ
shift_after-requires-clause-differ c = turn-differs c.args.shifts.now c.loop-x.x-index c.loop-x-test.true c.requires.turn

pub loop-x-preserved : goal.loop-x-preserved
loop-x-preserved c =
    let i : ℕ = c.loop-x.x-index in
    let x : ℕ = (get_or c.args.shifts.now i (0, 0)).0 in
    let w : ℕ = (get_or c.args.shifts.now i (0, 0)).1 in
    shift-step c.args.levels.now c.loop-x.levels c.shift_after.new.self c.args.shifts.now i x w c.loop-x-test.true refl refl
    (c.requires.level x w (firsts-at c.args.shifts.now i c.loop-x-test.true)
    (seconds-at c.args.shifts.now i c.loop-x-test.true)) c.loop-x.invariant c.shift_after.ensures
