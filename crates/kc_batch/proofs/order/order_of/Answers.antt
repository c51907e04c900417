-- What is sorted has the same places.
use Rattle.std.proofs.Common.{length}
use Rattle.kc_batch.proofs.Turning.{whole-permuted}
use Rattle.kc_batch.proofs.order.order_of.Goals as goal

pub returns : goal.returns
returns c = record {
  order = whole-permuted (length c.args.batch.now) c.in_ok-order.order.items c.sort_by_key.new.self.items c.sort_by_key.ensures.permutation
      c.in_ok-order.ensures;
}
