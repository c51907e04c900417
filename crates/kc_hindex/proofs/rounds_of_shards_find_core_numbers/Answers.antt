-- The order of a row does not matter to its h-index, so each vertex gets what a round gives it; and rounds that settle have found the numbers.
use Rattle.kc_hindex.proofs.Sharding.{degrees-listed, round-of_shards, settled-shards}
use Rattle.kc_hindex.proofs.rounds_of_shards_find_core_numbers.Goals as goal

pub returns : goal.returns
returns c = record { degrees = degrees-listed; round = round-of_shards; core = settled-shards }
