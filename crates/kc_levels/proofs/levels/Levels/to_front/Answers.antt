-- A put right behind the head of the level.
use Rattle.std.proofs.Common.{List, ◌<◌, ◌+◌, ℕ, sym, ap₂, ◌∙◌, subst, arith}
use Rattle.kc_lists.specs.Lists.{member}
use Rattle.kc_levels.specs.Levels.{Levelled, size_of}
use Rattle.kc_levels.specs.Heads.{vertices_of}
use Rattle.kc_order.specs.Standing.{list_after}
use Rattle.kc_levels.proofs.Moving.{head-in, front-leaves}
use Rattle.kc_levels.proofs.Topping.{headed-as}
use Rattle.kc_levels.specs.Levels.{IsTop}
use Rattle.kc_levels.proofs.levels.Levels.to_front.Goals as goal

pub put_after-requires-clause-p_in : goal.put_after-requires-clause-p_in
put_after-requires-clause-p_in c =
    let s = c.self.inside.writer in
    let n : ℕ = s.table.shape.fixed in
    let high : c.args.level < n = subst (λ (z : Levelled). c.args.level < size_of z) (sym c.self.view_is) c.requires.level in
    ap₂ (λ k l. member (k + c.args.level) l) c.self.invariant.0.size_is c.self.invariant.0.are.list
    ∙ head-in n c.args.level (vertices_of n (list_after s.table s.log)) c.self.inside.core.items (omega (arith, high))

pub invariant_of-self : goal.invariant_of-self
invariant_of-self c = (
  (front-leaves c.args.self.now c.self.inside.writer c.put_after.new.self c.self.inside.core.items c.self.inside.stamps.items
      c.self.inside.is_open c.self.inside.number c.self.inside.size c.args.v c.args.level c.self.view_is c.self.invariant.0 c.requires.may
      c.requires.level c.put_after.ensures).0,
  subst (λ (zs : List ℕ). IsTop zs c.top_after-self-inside.result) c.deref.ensures.value c.top_after-self-inside.ensures,
)

pub returns : goal.returns
returns c = (front-leaves c.args.self.now c.self.inside.writer c.put_after.new.self c.self.inside.core.items c.self.inside.stamps.items
    c.self.inside.is_open c.self.inside.number c.self.inside.size c.args.v c.args.level c.self.view_is c.self.invariant.0 c.requires.may
    c.requires.level c.put_after.ensures).1

pub top_after-self-inside-requires-clause-list : goal.top_after-self-inside-requires-clause-list
top_after-self-inside-requires-clause-list c =
    headed-as c.put_after.new.self _ c.deref.result.now c.self.inside.is_open c.deref.ensures.value
    (front-leaves c.args.self.now c.self.inside.writer c.put_after.new.self c.self.inside.core.items c.self.inside.stamps.items c.self.inside.is_open
    c.self.inside.number c.self.inside.size c.args.v c.args.level c.self.view_is c.self.invariant.0 c.requires.may c.requires.level
    c.put_after.ensures).1.are
