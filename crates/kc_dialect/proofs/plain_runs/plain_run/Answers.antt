-- The lines of one block more are behind the run, and those of the last bytes.
use Rattle.kc_dialect.proofs.Runs.{run-none, run-then}
use Rattle.kc_dialect.proofs.plain_runs.plain_run.Goals as goal

pub loop-len-init : goal.loop-len-init
loop-len-init c = run-none c.args.separator c.args.bytes.now

pub loop-len-preserved : goal.loop-len-preserved
loop-len-preserved c =
    run-then c.args.separator c.args.bytes.now c.split_at.result.1.now c.loop-len.len c.loop-len.lines c.block_run-more.result.0
    c.block_run-more.result.1 c.split_at.ensures.back c.loop-len.invariant c.block_run-more.ensures

pub returns : goal.returns
returns c =
    run-then c.args.separator c.args.bytes.now c.split_at-2.result.1.now c.loop-len.len c.loop-len.lines c.last_run-more.result.0
    c.last_run-more.result.1 c.split_at-2.ensures.back c.loop-len.invariant c.last_run-more.ensures
