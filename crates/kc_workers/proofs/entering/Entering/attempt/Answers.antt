-- What is said of what the plan's worker had seen holds of what it had seen before it.
use Rattle.kc_shared.proofs.Telling.{continues-earlier}
use Rattle.kc_workers.proofs.Attempting.{entered-so, inside-planned, missed-so, refused-so}
use Rattle.kc_workers.proofs.entering.Entering.attempt.Goals as goal

pub returns-in-Ok-entered-clause-continues : goal.returns-in-Ok-entered-clause-continues
returns-in-Ok-entered-clause-continues g c =
    let p = inside-planned c.in-Ok.plan c.worker.view_is c.plan.ensures.continues.longer c.in-Ok.ensures.since c.in-Ok.ensures.plan.update in
    continues-earlier c.args.worker.now.log p.begins c.enter-entered.ensures.continues

pub returns-in-Ok-entered-clause-attempt : goal.returns-in-Ok-entered-clause-attempt
returns-in-Ok-entered-clause-attempt g c =
    entered-so (inside-planned c.in-Ok.plan c.worker.view_is c.plan.ensures.continues.longer c.in-Ok.ensures.since c.in-Ok.ensures.plan.update)
    c.in-Ok-entered.ensures.entered

pub returns-in-Ok-clause-continues : goal.returns-in-Ok-clause-continues
returns-in-Ok-clause-continues g c =
    let p = inside-planned c.in-Ok.plan c.worker.view_is c.plan.ensures.continues.longer c.in-Ok.ensures.since c.in-Ok.ensures.plan.update in
    continues-earlier c.args.worker.now.log p.begins c.enter-entered.ensures.continues

pub returns-in-Ok-clause-attempt : goal.returns-in-Ok-clause-attempt
returns-in-Ok-clause-attempt g c =
    missed-so c.enter-entered.new.pass.log c.args.self.now.assignment.index c.in-Err.fault c.attempt_of.result c.attempt_of.ensures
    (inside-planned c.in-Ok.plan c.worker.view_is c.plan.ensures.continues.longer c.in-Ok.ensures.since c.in-Ok.ensures.plan.update)
    c.enter-entered.ensures.continues.longer c.enter-entered.ensures.continues.legal c.in-Err.ensures.cause

pub returns-in-Ok-clause-cause : goal.returns-in-Ok-clause-cause
returns-in-Ok-clause-cause g c =
    refused-so c.enter-entered.new.pass.log c.args.self.now.assignment.index c.in-Err.fault c.attempt_of.result c.attempt_of.ensures
    (inside-planned c.in-Ok.plan c.worker.view_is c.plan.ensures.continues.longer c.in-Ok.ensures.since c.in-Ok.ensures.plan.update) c.in-Err.ensures.cause
