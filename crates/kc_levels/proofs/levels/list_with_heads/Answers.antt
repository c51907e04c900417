-- Before each vertex the heads up to that of its level.
use Rattle.std.proofs.Common.{◌<◌, ◌+◌, ◌-◌, ◌++◌, ℕ, List, [], ◌∷◌, get_or, refl, sym, ap, ◌∙◌, subst, arith}
use Rattle.kc_lists.proofs.Counting.{member-get_or}
use Rattle.kc_levels.specs.Heads.{parts_from, no_part}
use Rattle.kc_levels.proofs.Opening.{Listing, listing-none, listing-next, listing-end}
use Rattle.kc_levels.proofs.levels.list_with_heads.Goals as goal

pub loop-v-init : goal.loop-v-init
loop-v-init c = subst (λ (z : List ℕ). Listing c.args.size c.args.core.now c.args.order.now z 0 0) (sym c.in_ok-list.ensures.items)
    (listing-none c.args.size c.args.core.now c.args.order.now)

pub bounds-core-v : goal.bounds-core-v
bounds-core-v c = omega (
  arith,
  c.requires.within (get_or c.args.order.now c.loop-v.v-index 0)
      (member-get_or c.args.order.now c.loop-v.v-index 0 c.loop-v-test.true),
  c.requires.size,
)

pub loop-v-preserved : goal.loop-v-preserved
loop-v-preserved c =
    let i : ℕ = c.loop-v.v-index in
    let v : ℕ = get_or c.args.order.now i 0 in
    let level : ℕ = get_or c.args.core.now v 0 in
    let heads : List ℕ = parts_from c.args.size no_part c.loop-v.next (level + 1 - c.loop-v.next) in
    let high : level < c.args.size = c.requires.low v (c.requires.within v (member-get_or c.args.order.now i 0 c.loop-v-test.true)) in
    subst (λ (z : List ℕ). Listing c.args.size c.args.core.now c.args.order.now z (i + 1) (level + 1))
    (sym (c.in_ok-push.ensures.items ∙ ap (λ (zs : List ℕ). zs ++ v ∷ []) c.in_ok-push_heads.ensures))
    (listing-next c.args.size c.args.core.now c.args.order.now c.loop-v.list.items heads i c.loop-v.next level c.loop-v-test.true refl high
    c.requires.rising c.loop-v.invariant refl)

pub returns : goal.returns
returns c =
    c.in_ok-push_heads-2.ensures
    ∙ listing-end c.args.size c.args.core.now c.args.order.now c.loop-v.list.items
    (parts_from c.args.size no_part c.loop-v.next
    (c.args.size + 1 - c.loop-v.next)) c.loop-v.v-index c.loop-v.next c.loop-v-test.false c.loop-v.invariant refl
