-- The labels before the next are the first of those at even distances.
use Rattle.std.proofs.Common.{◌+◌, arith, length, ◌/◌}
use Rattle.kc_list.proofs.Spreading.{evens-step, evens-all}
use Rattle.kc_list.proofs.spread.even_labels.Goals as goal

pub loop-i-preserved : goal.loop-i-preserved
loop-i-preserved c = evens-step (length c.args.into.now) (c.args.room / (length c.args.into.now + 1)) c.loop-i.i c.spread.result c.loop-i.into (omega arith)
    c.loop-i-test.true c.spread.ensures c.loop-i.invariant

pub returns : goal.returns
returns c = evens-all (length c.args.into.now) (c.args.room / (length c.args.into.now + 1)) c.loop-i.i c.loop-i.into (omega arith) (omega arith)
    c.loop-i.invariant
