-- One plain line more is behind the run.
use Rattle.kc_dialect.proofs.Runs.{run-more, run-none}
use Rattle.kc_dialect.proofs.plain_runs.last_run.Goals as goal

pub loop-more-init : goal.loop-more-init
loop-more-init c = run-none c.args.separator c.args.bytes.now

pub loop-more-preserved : goal.loop-more-preserved
loop-more-preserved c =
    run-more c.args.separator c.args.bytes.now c.split_at.result.1.now c.loop-more.len c.loop-more.lines c.in-Some.more c.split_at.ensures.back
    c.loop-more.invariant c.in-Some.ensures
