-- What is reached is no more than the h-index, which is at most the bound.
use Rattle.std.proofs.Common.{arith, get_or, map}
use Rattle.kc_shard.proofs.HIndex.{h_index-greatest}
use Rattle.kc_shard.proofs.counting.h_index_of.Goals as goal

pub returns-then-is_reached : goal.returns-then-is_reached
returns-then-is_reached c =
    omega (
      arith,
      c.requires.most,
      h_index-greatest (map (λ w. get_or c.args.numbers.now w 0) c.args.vertices.now) c.args.limit (c.is_reached.ensures.0 c.if-is_reached.true),
    )
