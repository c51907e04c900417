-- The count that is pushed is where range `k` begins, and after the last turn there is one begin more than ids.
use Rattle.std.proofs.Common.{◌*◌, ℕ, length, length-append, arith, ap, subst, sym, List, get_or}
use Rattle.kc_text.specs.Buckets.{IsBegin}
use Rattle.kc_text.proofs.Ranges.{begins-push}
use Rattle.kc_text.proofs.buckets.Buckets.new.Goals as goal

pub loop-k-preserved : goal.loop-k-preserved
loop-k-preserved c = record {
  whole = omega (arith, ap (length) c.in_ok-push.ensures.items, length-append {A = ℕ});
  each = λ j l. subst (λ (t : List ℕ). IsBegin c.args.ids.now (j * c.range_width-width.result) (get_or t j 0)) (sym c.in_ok-push.ensures.items)
      (begins-push c.args.ids.now c.range_width-width.result c.loop-k.begins.items c.loop-k.k c.count_below.result c.loop-k.invariant.whole
      c.loop-k.invariant.each c.count_below.ensures j l);
}

pub returns : goal.returns
returns c = record {
  some = c.range_width-width.ensures.some;
  reach = c.range_width-width.ensures.reach;
  whole = omega arith;
  each = λ k l. c.loop-k.invariant.each k (omega arith);
}
