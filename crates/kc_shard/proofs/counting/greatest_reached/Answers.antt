-- So many numbers reach the one where the search stands; while these are too few, the h-index lies below.
use Rattle.std.proofs.Common.{◌≡◌, ◌≤◌, ◌<◌, ◌-◌, ℕ, map, get_or, leb, eqb, min, le_refl, arith, ◌∙◌}
use Rattle.std.specs.Prelude.{count_by}
use Rattle.kc_lists.proofs.Counting.{count-le-length}
use Rattle.kc_shard.specs.HIndex.{h_index}
use Rattle.kc_shard.proofs.HIndex.{in_reach, out_of_reach}
use Rattle.kc_shard.proofs.BoundedCounts.{bounded-at, bounded-below, reach-from}
use Rattle.kc_shard.proofs.counting.greatest_reached.Goals as goal

pub loop-reached-init : goal.loop-reached-init
loop-reached-init c =
    let f : ℕ → ℕ = λ w. get_or c.args.numbers.now w 0 in
    (le_refl c.args.limit, c.requires.counts c.args.limit (le_refl c.args.limit) ∙ bounded-at f c.args.limit c.args.vertices.now, c.requires.most)

pub overflow_add-reached : goal.overflow_add-reached
overflow_add-reached c =
    let f : ℕ → ℕ = λ w. get_or c.args.numbers.now w 0 in
    let k : ℕ = c.loop-reached.number - 1 in
    let here : get_or c.args.counts.now k 0 ≡ count_by (λ w. eqb (min (f w) c.args.limit) k) c.args.vertices.now =
    c.requires.counts k (omega (arith, c.loop-reached.invariant.0)) in
    omega (
      arith,
      here,
      bounded-below f c.args.limit k c.args.vertices.now (omega (arith, c.loop-reached.invariant.0, c.loop-reached-test.true)),
      reach-from f k c.loop-reached.number c.args.vertices.now (omega (arith, c.loop-reached-test.true)),
      c.loop-reached.invariant.1,
      count-le-length (λ w. leb k (f w)) c.args.vertices.now,
      c.requires.few,
    )

pub loop-reached-preserved : goal.loop-reached-preserved
loop-reached-preserved c =
    let f : ℕ → ℕ = λ w. get_or c.args.numbers.now w 0 in
    let n : ℕ = c.loop-reached.number in
    let k : ℕ = n - 1 in
    let here : get_or c.args.counts.now k 0 ≡ count_by (λ w. eqb (min (f w) c.args.limit) k) c.args.vertices.now =
    c.requires.counts k (omega (arith, c.loop-reached.invariant.0)) in
    let few : count_by (λ w. leb n (f w)) c.args.vertices.now < n = omega (arith, c.loop-reached.invariant.1, c.loop-reached-test.true) in
    let less : h_index (map f c.args.vertices.now) < n = out_of_reach f c.args.vertices.now n few in
    let step = reach-from f k n c.args.vertices.now (omega (arith, c.loop-reached-test.true)) in (
      omega (arith, c.loop-reached.invariant.0),
      omega (
        arith,
        here,
        bounded-below f c.args.limit k c.args.vertices.now (omega (arith, c.loop-reached.invariant.0, c.loop-reached-test.true)),
        step,
        c.loop-reached.invariant.1,
      ),
      omega (arith, less),
    )

pub returns : goal.returns
returns c =
    let f : ℕ → ℕ = λ w. get_or c.args.numbers.now w 0 in
    let up : c.loop-reached.number ≤ h_index (map f c.args.vertices.now) =
    in_reach f c.args.vertices.now c.loop-reached.number (omega (arith, c.loop-reached.invariant.1, c.loop-reached-test.false)) in
    omega (arith, up, c.loop-reached.invariant.2)
