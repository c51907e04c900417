-- One number more is the next.
use Rattle.std.proofs.Common.{◌≡◌, ◌∙◌, ◌+◌, ◌∷◌, ℕ, suc, [], ap, eqb, arith}
use Rattle.kc_lists.specs.Lists.{below, times}
use Rattle.kc_lists.proofs.Counting.{count-cons}
use Rattle.kc_queue.proofs.Counts.{times-append, whole_times}
use Rattle.kc_batch.proofs.order.places.Goals as goal

pub loop-place-preserved : goal.loop-place-preserved
loop-place-preserved c =
    let p = c.loop-place.place in
    let old = c.loop-place.places.items in
    let is = c.push_reserved.ensures.items in
    record {
      all = λ y. omega (
        arith,
        c.loop-place.invariant.all y,
        ap (times y) is,
        times-append y old (p ∷ []),
        count-cons (eqb y) p [],
        count-cons (eqb y) p (below p),
        ap (λ (n : ℕ). times y (below n)) (one-more p),
      );
      len = omega (arith, c.push_reserved.ensures.len, c.loop-place.invariant.len);
      room = omega (arith, c.push_reserved.ensures.capacity, c.loop-place.invariant.room);
    }
  where
    one-more : (n : ℕ) → n + 1 ≡ suc n
    one-more n = omega arith

pub returns : goal.returns
returns c =
    let here : c.loop-place.place ≡ c.args.count = omega (arith, c.loop-place-test.false, c.loop-place.auto.place-end) in
    whole_times c.args.count c.loop-place.places.items
    (λ y. c.loop-place.invariant.all y ∙ ap (λ (n : ℕ). times y (below n)) here)
