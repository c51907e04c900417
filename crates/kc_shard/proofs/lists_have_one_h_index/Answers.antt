-- The greatest `k` up to the length that is reached is an h-index, and of two h-indices neither is greater than the other.
use Rattle.kc_shard.proofs.HIndex.{h_index-is, h_index-only}
use Rattle.kc_shard.proofs.lists_have_one_h_index.Goals as goal

pub returns : goal.returns
returns c = record { is = h_index-is; only = h_index-only }
