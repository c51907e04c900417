-- Nothing was entered, and the table is of version 0.
use Rattle.kc_run.proofs.Batching.{opens-worked}
use Rattle.kc_run.proofs.course.Course.open.Goals as goal

pub returns-clause-worked : goal.returns-clause-worked
returns-clause-worked c =
    opens-worked c.args.lawful c.in_ok-parts.parts.words c.in_ok-parts.parts.journal c.in_ok-parts.pass c.in_ok-parts.ensures
