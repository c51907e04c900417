-- A marked number comes twice, and one from `n` on is no vertex; `n` distinct numbers below `n` are all of them.
use Rattle.std.proofs.Common.{◌≡◌, ◌<◌, ℕ, true, false, get_or, refl, sym, ◌∙◌, arith, subst}
use Rattle.std.proofs.lemmas.Bool.{false≢true}
use Rattle.kc_graph.proofs.Places.{length-enumerates}
use Rattle.kc_cert.proofs.Enumerating.{SeenTo, seen_more, seen_all, seen_twice, any_mark}
use Rattle.kc_cert.proofs.conditions.is_enumeration.Goals as goal
use Rattle.kc_cert.proofs.conditions.is_enumeration.Goals.{then-v-n-via-then-v-n, then-v-n-via-else-v-n+then-index}

pub returns-then-order-n : goal.returns-then-order-n
returns-then-order-n c = (λ h. absurd (false≢true h), λ e. absurd (c.if-order-n.true (length-enumerates c.args.n c.args.order.now e)))

pub returns-then-v-n : goal.returns-then-v-n
returns-then-v-n c = (
  λ h. absurd (false≢true h),
  λ e. elim c.then-v-n.branch [
    | then-v-n-via-then-v-n w ↦ absurd (omega (arith, e.below c.loop-v.v-index 0 c.loop-v-test.true))
    | then-v-n-via-else-v-n+then-index w ↦
        let v : ℕ = get_or c.args.order.now c.loop-v.v-index 0 in
        let lv : v < c.args.n = w.if-v-n.false in
        let again : get_or c.loop-v.seen.items v false ≡ true =
        any_mark c.loop-v.seen.items v false w.index.result.now (omega (arith, c.loop-v.invariant.marked.one_each))
        ∙ sym w.index.ensures ∙ w.if-index.true in
        absurd (seen_twice c.args.n c.loop-v.v-index c.args.order.now c.loop-v.seen.items c.loop-v.invariant c.loop-v-test.true lv again e)
  ],
)

pub loop-v-preserved : goal.loop-v-preserved
loop-v-preserved c =
    let v : ℕ = get_or c.args.order.now c.loop-v.v-index 0 in
    let lv : v < c.args.n = c.if-v-n.false in
    let new' : get_or c.loop-v.seen.items v false ≡ false =
    any_mark c.loop-v.seen.items v false c.index.result.now (omega (arith, c.loop-v.invariant.marked.one_each)) ∙ sym c.index.ensures
    ∙ c.if-index.false in
    seen_more c.args.n c.loop-v.v-index c.args.order.now c.loop-v.seen.items c.loop-v.invariant c.loop-v-test.true lv new'

pub returns : goal.returns
returns c = (
  λ _.
      seen_all c.args.n c.args.order.now c.loop-v.seen.items
      (subst (λ (i : ℕ). SeenTo c.args.n i c.args.order.now c.loop-v.seen.items) (omega arith) c.loop-v.invariant) c.if-order-n.false,
  λ _. refl,
)
