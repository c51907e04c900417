-- The vertex whose turn it is has what it had before the call; it loses one and joins, or loses one, or is passed.
use Rattle.std.proofs.Common.{arith, ◌≡◌, ◌<◌, ◌+◌, ℕ, length, get_or, inl, inr}
use Rattle.std.proofs.lemmas.Bool.{cases_eq}
use Rattle.kc_lists.proofs.Counting.{member-get_or, take-not_here}
use Rattle.kc_graph.specs.Peeling.{at}
use Rattle.kc_tally.proofs.Releasing.{released_none, released_skip, released_joins, released_stays, released_next, released_here}
use Rattle.kc_tally.proofs.layering.release_each.Goals as goal
use Rattle.kc_tally.proofs.layering.release_each.Goals.{then-core-w+in_ok-release, else-core-w}

pub bounds-core-w : goal.bounds-core-w
bounds-core-w c =
    let m = member-get_or c.args.neighbours.now c.loop-w.w-index 0 c.loop-w-test.true in
    omega (arith, c.requires.within (get_or c.args.neighbours.now c.loop-w.w-index 0) m, c.requires.one_each)

pub release-requires-clause-w_in : goal.release-requires-clause-w_in
release-requires-clause-w_in c =
    let m = member-get_or c.args.neighbours.now c.loop-w.w-index 0 c.loop-w-test.true in
    omega (arith, c.requires.within (get_or c.args.neighbours.now c.loop-w.w-index 0) m, c.loop-w.invariant.one_each)

pub release-requires-clause-some_left : goal.release-requires-clause-some_left
release-requires-clause-some_left c =
    let w : ℕ = get_or c.args.neighbours.now c.loop-w.w-index 0 in
    let m = member-get_or c.args.neighbours.now c.loop-w.w-index 0 c.loop-w-test.true in
    let same : at c.args.left.now w ≡ at c.loop-w.left w = released_here _ _ _ _ _ _ _ _ c.loop-w-test.true c.requires.distinct c.loop-w.invariant in
    omega (arith, c.requires.some_left w m c.if-core-w.true, same)

pub loop-w-init : goal.loop-w-init
loop-w-init c = released_none c.args.core.now c.args.level c.args.left.now c.args.next.now.items

pub loop-w-preserved : goal.loop-w-preserved
loop-w-preserved c =
    let w : ℕ = get_or c.args.neighbours.now c.loop-w.w-index 0 in
    let m = member-get_or c.args.neighbours.now c.loop-w.w-index 0 c.loop-w-test.true in
    let same : at c.args.left.now w ≡ at c.loop-w.left w = released_here _ _ _ _ _ _ _ _ c.loop-w-test.true c.requires.distinct c.loop-w.invariant in
    let new' = take-not_here c.loop-w.w-index c.args.neighbours.now c.loop-w-test.true c.requires.distinct in
    let within : w < length c.loop-w.left = omega (arith, c.requires.within w m, c.loop-w.invariant.one_each) in
    released_next _ _ _ _ _ _ c.args.neighbours.now c.loop-w.w-index c.loop-w-test.true
    (elim c.if-core-w.branch [
      | then-core-w+in_ok-release k ↦
          let some : 0 < at c.loop-w.left w = omega (arith, c.requires.some_left w m k.if-core-w.true, same) in
          elim (cases_eq (at c.loop-w.left w) (c.args.level + 1)) [
            | inl ready ↦ rw (k.left-is, k.next-is, k.in_ok-release.ensures.left, k.in_ok-release.ensures.joins ready)
                (released_joins _ _ _ w _ _ _ _ c.loop-w.invariant same k.if-core-w.true some new' within ready)
            | inr more ↦ rw (k.left-is, k.next-is, k.in_ok-release.ensures.left, k.in_ok-release.ensures.stays more)
                (released_stays _ _ _ w _ _ _ _ c.loop-w.invariant same k.if-core-w.true some new' within more)
          ]
      | else-core-w k ↦ rw (k.left-is, k.next-is) (released_skip _ _ _ w _ _ _ _ c.loop-w.invariant same k.if-core-w.false)
    ])
