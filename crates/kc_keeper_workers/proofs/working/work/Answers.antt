-- The run began with the state, and its entries are the updates of the batch.
use Rattle.std.proofs.Common.{sym, subst}
use Rattle.std.proofs.lemmas.Result.{IfOk-at_ok}
use Rattle.kc_graph.specs.Lawful.{Ranked}
use Rattle.kc_batch.specs.Batches.{IsBatchDone}
use Rattle.kc_batch.specs.declared.done.BatchDone.{BatchDone}
use Rattle.kc_keeper_workers.specs.Working.{IsWorked}
use Rattle.kc_keeper_workers.proofs.Worked.{is-worked}
use Rattle.kc_keeper_workers.proofs.working.work.Goals as goal

pub returns-in-Ok-close : goal.returns-in-Ok-close
returns-in-Ok-close g c =
    subst (λ (s : Ranked). IsWorked c.args.lawful.graph c.args.updates.now s.graph) (sym c.in-Ok-close.ensures.state)
    (is-worked c.in_ok-opened.ensures c.run_batch-ended.ensures.stands
    (IfOk-at_ok (λ (done : BatchDone). IsBatchDone c.in_ok-opened.opened.journal c.run_batch-ended.result.0.journal 0 c.args.updates.now
    c.in_ok-workers.workers.len done) c.in-Ok.is c.run_batch-ended.ensures.done))
