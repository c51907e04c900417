-- Neighbours are distinct, so the next one has its first number still: above the level it loses one, and else it is passed over.
use Rattle.std.proofs.Common.{arith, ◌≡◌, ℕ, get_or}
use Rattle.kc_lists.proofs.Counting.{member-get_or, take-not_here}
use Rattle.kc_graph.specs.Rows.{lists}
use Rattle.kc_graph.specs.Peeling.{at}
use Rattle.kc_graph.proofs.Buckets.{length-lists}
use Rattle.kc_graph.proofs.Lowering.{lowered_none, lowered_skip, lowered_step, lowered_next, lowered_here}
use Rattle.kc_graph.proofs.peeling.lower_each.Goals as goal
use Rattle.kc_graph.proofs.peeling.lower_each.Goals.{then-core-w+in_ok-lower, else-core-w}

pub bounds-core-w : goal.bounds-core-w
bounds-core-w c =
    omega (
      arith,
      c.requires.within (get_or c.args.neighbours.now c.loop-w.w-index 0)
          (member-get_or c.args.neighbours.now c.loop-w.w-index 0 c.loop-w-test.true),
    )

pub lower-requires-clause-left_in : goal.lower-requires-clause-left_in
lower-requires-clause-left_in c =
    let w : ℕ = get_or c.args.neighbours.now c.loop-w.w-index 0 in
    let m = member-get_or c.args.neighbours.now c.loop-w.w-index 0 c.loop-w-test.true in
    let same : at c.args.core.now w ≡ at c.loop-w.core w = lowered_here _ _ _ _ _ _ _ c.loop-w-test.true c.requires.distinct c.loop-w.invariant in
    omega (arith, c.requires.room w m (omega (arith, same)), same)

pub loop-w-init : goal.loop-w-init
loop-w-init c = lowered_none c.args.level c.args.core.now (lists c.args.buckets.now)

pub loop-w-preserved : goal.loop-w-preserved
loop-w-preserved c =
    let w : ℕ = get_or c.args.neighbours.now c.loop-w.w-index 0 in
    let m = member-get_or c.args.neighbours.now c.loop-w.w-index 0 c.loop-w-test.true in
    let same : at c.args.core.now w ≡ at c.loop-w.core w = lowered_here _ _ _ _ _ _ _ c.loop-w-test.true c.requires.distinct c.loop-w.invariant in
    lowered_next _ _ _ _ _ c.args.neighbours.now c.loop-w.w-index c.loop-w-test.true
    (elim c.if-core-w.branch [
      | then-core-w+in_ok-lower k ↦
          rw (k.core-is, k.buckets-is, k.in_ok-lower.ensures.core, k.in_ok-lower.ensures.buckets)
          (lowered_step _ w _ _ _ _ _ c.loop-w.invariant same k.if-core-w.true
          (take-not_here c.loop-w.w-index c.args.neighbours.now c.loop-w-test.true c.requires.distinct)
          (omega (arith, c.requires.within w m, c.loop-w.invariant.one_each))
          (omega (arith, same, length-lists c.args.buckets.now, c.loop-w.invariant.one_bucket, c.requires.room w m (omega (arith, same, k.if-core-w.true)))))
      | else-core-w k ↦ rw (k.core-is, k.buckets-is) (lowered_skip _ w _ _ _ _ _ c.loop-w.invariant same k.if-core-w.false)
    ])
