-- The members from the place `left` on have moved, and the others wait.
use Rattle.std.proofs.Common.{◌≡◌, ◌+◌, ◌-◌, ℕ, arith, sym, subst, get_or}
use Rattle.kc_links.specs.Ring.{Chain}
use Rattle.kc_lists.proofs.Counting.{member-get_or}
use Rattle.kc_list.specs.Views.{HaveMoved}
use Rattle.kc_list.proofs.Cutting.{upway-none, upway-more}
use Rattle.kc_list.proofs.labelled.LabelledList.move_all.Goals as goal

pub loop-left-init : goal.loop-left-init
loop-left-init c = upway-none c.args.self.now c.args.cut.group c.args.cut.fresh c.args.cut.low.now c.args.cut.ups.now c.requires.wait

pub move_up-requires-clause-place_in : goal.move_up-requires-clause-place_in
move_up-requires-clause-place_in c = omega (arith, c.loop-left.invariant.halfway.within)

pub move_up-requires-clause-waits : goal.move_up-requires-clause-waits
move_up-requires-clause-waits c =
    let there = subst (λ (l : Chain). HaveMoved l c.loop-left.self.sheet c.args.cut.group c.args.cut.fresh c.args.cut.low.now c.args.cut.ups.now
    c.loop-left.left)
    (sym c.loop-left.invariant.links) c.loop-left.invariant.halfway.splitting in
    let e : c.loop-left.left ≡ c.loop-left.left - 1 + 1 = omega arith in
    subst (λ (k : ℕ). HaveMoved c.loop-left.self.links c.loop-left.self.sheet c.args.cut.group c.args.cut.fresh c.args.cut.low.now c.args.cut.ups.now k) e there

pub move_up-requires-clause-version : goal.move_up-requires-clause-version
move_up-requires-clause-version c =
    omega (
      arith,
      c.loop-left.invariant.halfway.waiting (c.loop-left.left - 1) (omega arith),
      c.requires.version (get_or c.args.cut.ups.now (c.loop-left.left - 1) 0)
          (member-get_or c.args.cut.ups.now (c.loop-left.left - 1) 0 (omega (arith, c.loop-left.invariant.halfway.within))),
    )

pub move_up-requires-clause-room : goal.move_up-requires-clause-room
move_up-requires-clause-room c =
    omega (arith, c.loop-left.invariant.halfway.length_is, c.loop-left.invariant.halfway.room, c.requires.room)

pub loop-left-preserved : goal.loop-left-preserved
loop-left-preserved c =
    upway-more c.args.self.now c.loop-left.self c.move_up.new.self c.args.cut.group c.args.cut.fresh c.args.cut.low.now c.args.cut.ups.now
    (c.loop-left.left - 1)
    c.loop-left.left c.loop-left.invariant (omega arith) c.move_up.ensures.moved c.move_up.ensures.stores
