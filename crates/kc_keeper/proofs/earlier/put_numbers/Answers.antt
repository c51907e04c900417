-- All have the number of now in the end.
use Rattle.std.proofs.Common.{arith}
use Rattle.kc_keeper.proofs.PutNumbers.{put-all}
use Rattle.kc_keeper.proofs.earlier.put_numbers.Goals as goal

pub returns : goal.returns
returns c = put-all c.loop-change.invariant (omega (arith, c.loop-change-test.false, c.loop-change.invariant.long))
