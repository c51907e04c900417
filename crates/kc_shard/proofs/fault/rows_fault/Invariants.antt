-- What is found in all rows is what is found from here on.
use Rattle.std.proofs.Common.{◌≡◌, drop}
use Rattle.kc_shard.specs.Shards.{rows_fault}
use Rattle.kc_shard.proofs.fault.rows_fault.Given as goal

abbrev pub invariant-loop-row : goal.invariant-loop-row
invariant-loop-row l = rows_fault 0 0 l.ends ≡ rows_fault l.row l.from (drop l.row l.ends)
