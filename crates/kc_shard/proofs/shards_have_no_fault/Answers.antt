-- Each test of a shard lets through just what a shard has.
use Rattle.kc_shard.proofs.Shards.{faultless-shard, shard-faultless}
use Rattle.kc_shard.proofs.shards_have_no_fault.Goals as goal

pub returns : goal.returns
returns c = λ rows vertices offsets neighbours. (faultless-shard rows vertices offsets neighbours, shard-faultless rows vertices offsets neighbours)
