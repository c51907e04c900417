-- Level after level is taken, from the degrees on.
use Rattle.std.proofs.Common.{arith, ap, sym, subst, ◌≡◌, ◌<◌, ◌++◌, ◌∙◌, ℕ, List, [], Vec, Global, length, take, drop}
use Rattle.std.proofs.Math.Seq.{take-append_seam}
use Rattle.kc_graph.specs.Rows.{lists}
use Rattle.kc_graph.proofs.PeelingLemmas.{remaining-lt}
use Rattle.kc_hindex.specs.Ordering.{Orders, Sorted}
use Rattle.kc_hindex.proofs.Taking.{all_taken, few_enough, taking-begins}
use Rattle.kc_hindex.proofs.ordering.order_of.Goals as goal

pub levels_of-levels-requires : goal.levels_of-levels-requires
levels_of-levels-requires c = λ v l.
    let in' : v < c.args.graph.now.size = omega (arith, l, c.requires.one_each) in
    omega (arith, few_enough c.args.graph.now c.args.core.now c.requires v in', remaining-lt c.args.graph.now [] v in', c.vertices-vertices.ensures)

pub loop-level-init : goal.loop-level-init
loop-level-init c =
    let old : List (Vec ℕ Global) = c.in_ok-waiting.waiting.items in
    let now : List (Vec ℕ Global) = c.put_first.new.waiting in
    let n : c.in_ok-waiting.waiting.len ≡ length now = omega arith in
    let e : take c.in_ok-waiting.waiting.len (now ++ drop (length now) old) ≡ now =
    ap (λ k. take k (now ++ drop (length now) old)) n ∙ take-append_seam now (drop (length now) old) in
    let left : List ℕ = c.in_ok-left.left.items in
    let sorted : Sorted c.args.core.now left (length c.args.core.now) (lists now) =
    subst (λ (xs : List ℕ). Sorted c.args.core.now xs (length c.args.core.now) (lists now)) c.deref.ensures.value c.in_ok-put_first.ensures.sorted in
    let all : Sorted c.args.core.now left c.args.graph.now.size (lists now) =
    subst (λ (k : ℕ). Sorted c.args.core.now left k (lists now)) c.requires.one_each sorted in
    let h : Orders c.args.graph.now c.args.core.now 0 left [] (lists now) =
    taking-begins c.args.graph.now c.args.core.now left (lists now) c.requires c.in_ok-left.ensures all in (
      subst (λ (t : List (Vec ℕ Global)). Orders c.args.graph.now c.args.core.now 0 left c.in_ok-order.order.items (lists t)) (sym e)
          (subst (λ (xs : List ℕ). Orders c.args.graph.now c.args.core.now 0 left xs (lists now)) (sym c.in_ok-order.ensures.items) h),
      ap length e ∙ omega (arith, c.in_ok-waiting.ensures.count, c.in_ok-put_first.ensures.one_row),
    )

pub returns : goal.returns
returns c =
    all_taken c.args.graph.now c.args.core.now c.loop-level.level c.loop-level.left.items c.loop-level.order.items
    (lists c.loop-level.waiting.items) c.loop-level.invariant.0
    (λ v l. omega (arith, c.levels_of-levels.ensures v (omega (arith, l, c.requires.one_each)), c.loop-level-test.false))
