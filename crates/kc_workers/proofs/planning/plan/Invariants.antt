-- The start is named by the log that the worker has seen when the plan begins.
use Rattle.kc_workers.proofs.planning.plan.Given as goal

abbrev pub ghosts-plan_since : goal.ghosts-plan_since
ghosts-plan_since g a = record { log = a.worker.now.log }
