-- The plan was entered, and changes the numbers of what it moves; or its refusal has its cause.
use Rattle.std.proofs.Common.{refl}
use Rattle.kc_keeper.proofs.Causes.{may-refuse}
use Rattle.kc_keeper.proofs.Entered.{entered-renumbers, entered-updates}
use Rattle.kc_keeper.proofs.entering.enter_plan.Goals as goal

pub returns-in-Ok-clause-made : goal.returns-in-Ok-clause-made
returns-in-Ok-clause-made c = entered-updates c.args.plan.now.update refl c.recall_stands.ensures c.in-Ok.ensures.entered

pub returns-in-Ok-clause-moved : goal.returns-in-Ok-clause-moved
returns-in-Ok-clause-moved c = entered-renumbers c.in-Ok.ensures.entered

pub returns-in-Err-clause-cause : goal.returns-in-Err-clause-cause
returns-in-Err-clause-cause c =
    may-refuse c.args.journal.now c.args.plan.now c.in-Err.fault c.recall_stands.ensures c.requires.planned.may c.requires.planned.current
    c.in-Err.ensures.cause
