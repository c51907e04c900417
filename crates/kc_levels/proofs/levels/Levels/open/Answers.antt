-- The list that was built is that of the levels, and each vertex word has its stamp and its level.
use Rattle.std.proofs.Common.{ℕ, List, length, get_or, refl, sym, subst, ap, ◌∙◌}
use Rattle.kc_levels.specs.Levels.{IsTop}
use Rattle.kc_graph.proofs.Grown.{order-below}
use Rattle.kc_levels.proofs.Opening.{list-items, stamp-opens, open-leaves}
use Rattle.kc_levels.proofs.Topping.{greatest-is_top}
use Rattle.kc_levels.proofs.levels.Levels.open.Goals as goal

pub list_with_heads-requires-clause-within : goal.list_with_heads-requires-clause-within
list_with_heads-requires-clause-within c = order-below (length c.args.core.now) c.args.order.now c.requires.order

pub open-requires-clause-distinct : goal.open-requires-clause-distinct
open-requires-clause-distinct c = (list-items
    (length c.args.core.now) c.args.order.now c.args.core.now c.deref.result.now c.in_ok-list.list.items c.requires.order c.requires.low
    c.in_ok-list.ensures c.deref.ensures.value).distinct

pub open-requires-clause-within : goal.open-requires-clause-within
open-requires-clause-within c =
    (list-items (length c.args.core.now) c.args.order.now c.args.core.now c.deref.result.now c.in_ok-list.list.items c.requires.order c.requires.low
    c.in_ok-list.ensures c.deref.ensures.value).within

pub open-requires-clause-vertices : goal.open-requires-clause-vertices
open-requires-clause-vertices c = (list-items
    (length c.args.core.now) c.args.order.now c.args.core.now c.deref.result.now c.in_ok-list.list.items c.requires.order c.requires.low
    c.in_ok-list.ensures c.deref.ensures.value).vertices

pub open-requires-clause-stamps : goal.open-requires-clause-stamps
open-requires-clause-stamps c = λ v l. stamp-opens c.in_ok-vertex.vertex.items c.deref-2.result.now c.args.stamps.now c.args.core.now
    (length c.args.core.now) c.args.base v c.deref-2.ensures.value c.in_ok-vertex.ensures.each c.requires.stamps c.requires.low c.ranges.base.fits
    c.requires.few l

pub invariant_of-levels : goal.invariant_of-levels
invariant_of-levels c = (
  (open-leaves c.in_ok-words.words c.in_ok-words.writer c.in_ok-words.pass _
      (length c.args.core.now) c.args.order.now c.args.core.now c.args.stamps.now c.in_ok-levels.levels.items c.in_ok-kept.kept.items
      c.deref.result.now c.in_ok-list.list.items c.deref-2.result.now c.args.base c.args.version
      c.in_ok-words.ensures.shape refl refl refl refl refl c.requires.one_stamp_each c.requires.few c.ranges.base.fits c.requires.order
      c.requires.rising c.requires.low c.requires.stamps
      c.in_ok-words.ensures.legal c.in_ok-words.ensures.list c.deref.ensures.value c.in_ok-list.ensures c.in_ok-words.ensures.vertex
      (λ v l. ap (λ (zs : List ℕ). get_or zs v 0) c.deref-2.ensures.value ∙ c.in_ok-vertex.ensures.each v l)
      c.in_ok-words.ensures.writer c.in_ok-words.ensures.pass c.in_ok-levels.ensures.items c.in_ok-kept.ensures.items).0,
  subst (λ (zs : List ℕ). IsTop zs c.greatest.result) (sym c.in_ok-levels.ensures.items) (greatest-is_top c.args.core.now c.greatest.result c.greatest.ensures),
)

pub returns : goal.returns
returns c =
    (open-leaves c.in_ok-words.words c.in_ok-words.writer c.in_ok-words.pass _
    (length c.args.core.now) c.args.order.now c.args.core.now c.args.stamps.now c.in_ok-levels.levels.items c.in_ok-kept.kept.items
    c.deref.result.now c.in_ok-list.list.items c.deref-2.result.now c.args.base c.args.version
    c.in_ok-words.ensures.shape refl refl refl refl refl c.requires.one_stamp_each c.requires.few c.ranges.base.fits c.requires.order
    c.requires.rising c.requires.low c.requires.stamps
    c.in_ok-words.ensures.legal c.in_ok-words.ensures.list c.deref.ensures.value c.in_ok-list.ensures c.in_ok-words.ensures.vertex
    (λ v l. ap (λ (zs : List ℕ). get_or zs v 0) c.deref-2.ensures.value ∙ c.in_ok-vertex.ensures.each v l)
    c.in_ok-words.ensures.writer c.in_ok-words.ensures.pass c.in_ok-levels.ensures.items c.in_ok-kept.ensures.items).1
