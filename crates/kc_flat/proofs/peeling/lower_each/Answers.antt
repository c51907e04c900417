-- Neighbours are distinct, so the next one has its first number still: above the level it loses one, and else it is passed over.
use Rattle.std.proofs.Common.{◌≡◌, ◌≤◌, ◌<◌, ◌+◌, ◌-◌, ℕ, true, List, length, get_or, take, set, refl, ap, sym, ◌∙◌, subst, arith}
use Rattle.kc_lists.specs.Lists.{Distinct, member}
use Rattle.kc_lists.proofs.Counting.{member-get_or}
use Rattle.kc_graph.specs.Peeling.{at}
use Rattle.kc_flat.specs.Bins.{LoseOne}
use Rattle.kc_flat.proofs.Taking.{lose-none, lose-skip, lose-step, lose-next, lose-here, lose-low}
use Rattle.kc_flat.proofs.peeling.lower_each.Goals as goal
use Rattle.kc_flat.proofs.peeling.lower_each.Goals.{then-core-w, else-core-w}

-- The next neighbour is looked at.
module _ (ws old was : List ℕ) (level i : ℕ) (core order : List ℕ) (l : i < length ws) (distinct : Distinct ws)
    (within : (w : ℕ) → member w ws ≡ true → w < length old) (lost : LoseOne level (take i ws) old core)
    (before : (j : ℕ) → j < length old → at old (at was j) ≤ level → at order j ≡ at was j) where
  -- it is a vertex
  vertex : get_or ws i 0 < length core
  vertex = omega (arith, within (get_or ws i 0) (member-get_or ws i 0 l), lost.one_each)

  -- it has its first number still
  same : at old (get_or ws i 0) ≡ at core (get_or ws i 0)
  same = lose-here level old core ws i l distinct lost

  -- above the level it loses one
  one-lost : (core' : List ℕ) → level < at core (get_or ws i 0) → core' ≡ set core (get_or ws i 0) (at core (get_or ws i 0) - 1)
      → LoseOne level (take (i + 1) ws) old core'
  one-lost core' up is =
      subst (LoseOne level (take (i + 1) ws) old) (sym is)
      (lose-next level old _ ws i l (lose-step level (get_or ws i 0) (take i ws) old core lost same up vertex))

  -- those at the front stay
  front-stays : (order' : List ℕ) → level < at core (get_or ws i 0)
      → ((j : ℕ) → j < length core → at core (at order j) < at core (get_or ws i 0) → at order' j ≡ at order j)
      → (j : ℕ) → j < length old → at old (at was j) ≤ level → at order' j ≡ at was j
  front-stays order' up stays j lj low =
      let here : at order j ≡ at was j = before j lj low in
      let number : at core (at order j) ≡ at old (at was j) = ap (at core) here ∙ sym (lose-low level (at was j) (take i ws) old core lost low) in
      stays j (omega (arith, lj, lost.one_each)) (omega (arith, number, low, up)) ∙ here

  -- no higher than the level it is passed over
  none-lost : (at core (get_or ws i 0) ≤ level) → LoseOne level (take (i + 1) ws) old core
  none-lost low = lose-next level old core ws i l (lose-skip level (get_or ws i 0) (take i ws) old core lost same low)

pub loop-w-init : goal.loop-w-init
loop-w-init c = record {
  binned = c.requires.binned;
  lost = lose-none c.args.level c.args.core.now;
  before = λ i l low. refl;
}

pub bounds-core-w : goal.bounds-core-w
bounds-core-w c =
    vertex c.args.neighbours.now c.args.core.now c.args.order.now c.args.level c.loop-w.w-index c.loop-w.core c.loop-w.order c.loop-w-test.true
    c.requires.distinct c.requires.within c.loop-w.invariant.lost c.loop-w.invariant.before

pub loop-w-preserved : goal.loop-w-preserved
loop-w-preserved c =
    let h = c.loop-w.invariant in
    elim c.if-core-w.branch [
      | then-core-w w ↦
          rw (w.core-is, w.order-is, w.places-is, w.ends-is)
          (record {
            binned = w.lower.ensures.binned;
            lost =
                one-lost c.args.neighbours.now c.args.core.now c.args.order.now c.args.level c.loop-w.w-index c.loop-w.core c.loop-w.order
                c.loop-w-test.true c.requires.distinct c.requires.within h.lost h.before w.lower.new.core w.if-core-w.true w.lower.ensures.core;
            before =
                front-stays c.args.neighbours.now c.args.core.now c.args.order.now c.args.level c.loop-w.w-index c.loop-w.core c.loop-w.order
                c.loop-w-test.true c.requires.distinct c.requires.within h.lost h.before w.lower.new.order w.if-core-w.true w.lower.ensures.before;
          })
      | else-core-w w ↦
          rw (w.core-is, w.order-is, w.places-is, w.ends-is)
          (record {
            binned = h.binned;
            lost =
                none-lost c.args.neighbours.now c.args.core.now c.args.order.now c.args.level c.loop-w.w-index c.loop-w.core c.loop-w.order
                c.loop-w-test.true c.requires.distinct c.requires.within h.lost h.before w.if-core-w.false;
            before = h.before;
          })
    ]
