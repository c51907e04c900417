-- A put right after the last item of the level that is not the vertex itself.
use Rattle.std.proofs.Common.{List, ℕ, subst}
use Rattle.kc_levels.proofs.Moving.{back-place, back-leaves}
use Rattle.kc_levels.proofs.Topping.{headed-as}
use Rattle.kc_levels.specs.Levels.{IsTop}
use Rattle.kc_levels.proofs.levels.Levels.to_back.Goals as goal

pub other_before-p-requires-clause-x_in : goal.other_before-p-requires-clause-x_in
other_before-p-requires-clause-x_in c =
    (back-place c.args.self.now c.self.inside.writer c.self.inside.core.items c.self.inside.stamps.items c.self.inside.is_open c.self.inside.number
    c.self.inside.size c.args.v c.args.level 0 c.self.view_is c.self.invariant.0 c.requires.may c.requires.level).head_in

pub other_before-p-requires-clause-v_in : goal.other_before-p-requires-clause-v_in
other_before-p-requires-clause-v_in c =
    (back-place c.args.self.now c.self.inside.writer c.self.inside.core.items c.self.inside.stamps.items c.self.inside.is_open c.self.inside.number
    c.self.inside.size c.args.v c.args.level 0 c.self.view_is c.self.invariant.0 c.requires.may c.requires.level).vertex_in

pub other_before-p-requires-clause-later : goal.other_before-p-requires-clause-later
other_before-p-requires-clause-later c =
    (back-place c.args.self.now c.self.inside.writer c.self.inside.core.items c.self.inside.stamps.items c.self.inside.is_open c.self.inside.number
    c.self.inside.size c.args.v c.args.level 0 c.self.view_is c.self.invariant.0 c.requires.may c.requires.level).later

pub put_after-requires-clause-p_in : goal.put_after-requires-clause-p_in
put_after-requires-clause-p_in c =
    (back-place c.args.self.now c.self.inside.writer c.self.inside.core.items c.self.inside.stamps.items c.self.inside.is_open c.self.inside.number
    c.self.inside.size c.args.v c.args.level c.other_before-p.result c.self.view_is c.self.invariant.0 c.requires.may c.requires.level).place_in
    c.other_before-p.ensures

pub put_after-requires-clause-differ : goal.put_after-requires-clause-differ
put_after-requires-clause-differ c =
    (back-place c.args.self.now c.self.inside.writer c.self.inside.core.items c.self.inside.stamps.items c.self.inside.is_open c.self.inside.number
    c.self.inside.size c.args.v c.args.level c.other_before-p.result c.self.view_is c.self.invariant.0 c.requires.may
    c.requires.level).place_other c.other_before-p.ensures

pub invariant_of-self : goal.invariant_of-self
invariant_of-self c = (
  (back-leaves c.args.self.now c.self.inside.writer c.put_after.new.self c.self.inside.core.items c.self.inside.stamps.items c.self.inside.is_open
      c.self.inside.number c.self.inside.size c.args.v c.args.level c.other_before-p.result c.self.view_is c.self.invariant.0 c.requires.may
      c.requires.level c.other_before-p.ensures c.put_after.ensures).0,
  subst (λ (zs : List ℕ). IsTop zs c.top_after-self-inside.result) c.deref.ensures.value c.top_after-self-inside.ensures,
)

pub returns : goal.returns
returns c = (back-leaves c.args.self.now c.self.inside.writer c.put_after.new.self c.self.inside.core.items c.self.inside.stamps.items
    c.self.inside.is_open c.self.inside.number c.self.inside.size c.args.v c.args.level c.other_before-p.result c.self.view_is c.self.invariant.0
    c.requires.may c.requires.level c.other_before-p.ensures c.put_after.ensures).1

pub top_after-self-inside-requires-clause-list : goal.top_after-self-inside-requires-clause-list
top_after-self-inside-requires-clause-list c =
    headed-as c.put_after.new.self _ c.deref.result.now c.self.inside.is_open c.deref.ensures.value
    (back-leaves c.args.self.now c.self.inside.writer c.put_after.new.self c.self.inside.core.items c.self.inside.stamps.items c.self.inside.is_open
    c.self.inside.number c.self.inside.size c.args.v c.args.level c.other_before-p.result c.self.view_is c.self.invariant.0 c.requires.may
    c.requires.level c.other_before-p.ensures c.put_after.ensures).1.are
