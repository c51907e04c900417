-- The plan was made of what the pass has seen then.
use Rattle.kc_shared.proofs.Reading.{read-now}
use Rattle.kc_workers_tests.proofs.entrant.Entrant.plan.Goals as goal

pub returns-in-Ok-clause-read : goal.returns-in-Ok-clause-read
returns-in-Ok-clause-read g c =
    read-now g.K.Name.opened c.plan.new.worker.log c.in-Ok.plan c.in-Ok.ensures.from
