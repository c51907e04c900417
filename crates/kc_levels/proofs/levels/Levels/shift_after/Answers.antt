-- A put right after the other vertex.
use Rattle.std.proofs.Common.{List, ◌<◌, ℕ, sym, subst}
use Rattle.kc_table.proofs.Listed.{Listed, list-stands}
use Rattle.kc_order.specs.Standing.{list_after}
use Rattle.kc_levels.specs.Levels.{Levelled, size_of}
use Rattle.kc_levels.proofs.Moving.{after-leaves}
use Rattle.kc_levels.proofs.Topping.{headed-as}
use Rattle.kc_levels.specs.Levels.{IsTop}
use Rattle.kc_levels.proofs.levels.Levels.shift_after.Goals as goal

pub put_after-requires-clause-p_in : goal.put_after-requires-clause-p_in
put_after-requires-clause-p_in c =
    let s = c.self.inside.writer in
    let listed : Listed s.table.shape (list_after s.table s.log) = (list-stands s.table.shape s.table.opening s.log c.self.invariant.0.are.legal).listed in
    listed.vertices c.args.w (subst (λ (z : Levelled). c.args.w < size_of z) (sym c.self.view_is) c.requires.other)

pub invariant_of-self : goal.invariant_of-self
invariant_of-self c = (
  (after-leaves c.args.self.now c.self.inside.writer c.put_after.new.self c.self.inside.core.items c.self.inside.stamps.items
      c.self.inside.is_open c.self.inside.number c.self.inside.size c.args.v c.args.w c.index.result.now c.self.view_is c.self.invariant.0
      c.requires.may c.requires.other c.requires.differ c.index.ensures c.put_after.ensures).0,
  subst (λ (zs : List ℕ). IsTop zs c.top_after-self-inside.result) c.deref.ensures.value c.top_after-self-inside.ensures,
)

pub returns : goal.returns
returns c = (after-leaves c.args.self.now c.self.inside.writer c.put_after.new.self c.self.inside.core.items c.self.inside.stamps.items
    c.self.inside.is_open c.self.inside.number c.self.inside.size c.args.v c.args.w c.index.result.now c.self.view_is c.self.invariant.0
    c.requires.may c.requires.other c.requires.differ c.index.ensures c.put_after.ensures).1

pub top_after-self-inside-requires-clause-list : goal.top_after-self-inside-requires-clause-list
top_after-self-inside-requires-clause-list c =
    headed-as c.put_after.new.self _ c.deref.result.now c.self.inside.is_open c.deref.ensures.value
    (after-leaves c.args.self.now c.self.inside.writer c.put_after.new.self c.self.inside.core.items c.self.inside.stamps.items c.self.inside.is_open
    c.self.inside.number c.self.inside.size c.args.v c.args.w c.index.result.now c.self.view_is c.self.invariant.0 c.requires.may
    c.requires.other c.requires.differ c.index.ensures c.put_after.ensures).1.are
