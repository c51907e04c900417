-- The vertex whose turn it is has what it had before the call; it loses one and waits, or loses one, or is passed.
use Rattle.std.proofs.Common.{arith, ◌≡◌, ◌<◌, ◌+◌, ℕ, length, get_or, inl, inr}
use Rattle.std.proofs.lemmas.Bool.{cases_eq}
use Rattle.kc_lists.proofs.Counting.{member-get_or, take-not_here}
use Rattle.kc_graph.specs.Rows.{lists}
use Rattle.kc_graph.specs.Peeling.{at}
use Rattle.kc_graph.proofs.Buckets.{length-lists}
use Rattle.kc_hindex.proofs.Releasing.{released_none, released_skip, released_ready, released_later, released_next, released_here}
use Rattle.kc_hindex.proofs.ordering.release_each.Goals as goal
use Rattle.kc_hindex.proofs.ordering.release_each.Goals.{then-left-w+in_ok-release, else-left-w}

pub bounds-left-w : goal.bounds-left-w
bounds-left-w c =
    let m = member-get_or c.args.neighbours.now c.loop-w.w-index 0 c.loop-w-test.true in
    omega (arith, c.requires.within (get_or c.args.neighbours.now c.loop-w.w-index 0) m, c.loop-w.invariant.one_each)

pub bounds-core-w : goal.bounds-core-w
bounds-core-w c =
    let m = member-get_or c.args.neighbours.now c.loop-w.w-index 0 c.loop-w-test.true in
    omega (arith, c.requires.within (get_or c.args.neighbours.now c.loop-w.w-index 0) m, c.requires.one_each)

pub loop-w-init : goal.loop-w-init
loop-w-init c = released_none c.args.core.now c.args.left.now (lists c.args.waiting.now)

pub loop-w-preserved : goal.loop-w-preserved
loop-w-preserved c =
    let w : ℕ = get_or c.args.neighbours.now c.loop-w.w-index 0 in
    let m = member-get_or c.args.neighbours.now c.loop-w.w-index 0 c.loop-w-test.true in
    let same : at c.args.left.now w ≡ at c.loop-w.left w = released_here _ _ _ _ _ _ _ c.loop-w-test.true c.requires.distinct c.loop-w.invariant in
    let new' = take-not_here c.loop-w.w-index c.args.neighbours.now c.loop-w-test.true c.requires.distinct in
    let within : w < length c.loop-w.left = omega (arith, c.requires.within w m, c.loop-w.invariant.one_each) in
    let room : at c.args.core.now w < length (lists c.loop-w.waiting) =
    omega (
      arith,
      c.requires.levels w (omega (arith, c.requires.within w m, c.requires.one_each)),
      length-lists c.args.waiting.now,
      c.loop-w.invariant.one_row,
    ) in
    released_next _ _ _ _ _ c.args.neighbours.now c.loop-w.w-index c.loop-w-test.true
    (elim c.if-left-w.branch [
      | then-left-w+in_ok-release k ↦ elim (cases_eq (at c.loop-w.left w) (at c.args.core.now w + 1)) [
        | inl ready ↦ rw (k.left-is, k.waiting-is, k.in_ok-release.ensures.left, k.in_ok-release.ensures.waits ready)
            (released_ready _ _ w _ _ _ _ c.loop-w.invariant same ready new' within room)
        | inr more ↦ rw (k.left-is, k.waiting-is, k.in_ok-release.ensures.left, k.in_ok-release.ensures.stays more)
            (released_later _ _ w _ _ _ _ c.loop-w.invariant same (omega (arith, k.if-left-w.true, more)) new' within)
      ]
      | else-left-w k ↦ rw (k.left-is, k.waiting-is) (released_skip _ _ w _ _ _ _ c.loop-w.invariant same k.if-left-w.false)
    ])
