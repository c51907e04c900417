-- One byte more is spaced.
use Rattle.kc_dialect.proofs.Spacing.{spaced-next}
use Rattle.kc_dialect.proofs.plain_runs.space_out.Goals as goal

pub loop-b-preserved : goal.loop-b-preserved
loop-b-preserved c =
    spaced-next c.args.separator c.args.bytes.now c.loop-b.bytes c.loop-b.b-index c.spaced.result c.loop-b-test.true c.loop-b.invariant c.spaced.ensures
