-- One update more is told of, with whether it changes the graph before all of them.
use Rattle.std.proofs.Common.{List, subst}
use Rattle.std.proofs.lemmas.List.{take_all}
use Rattle.kc_graph.specs.declared.update.Update.{Update}
use Rattle.kc_keeper.specs.Telling.{IsToldOf}
use Rattle.kc_keeper_workers.proofs.Apart.{one-more}
use Rattle.kc_keeper_workers.proofs.telling.tell_updates.Goals as goal

pub loop-update-preserved : goal.loop-update-preserved
loop-update-preserved c =
    let told = c.in_ok-tell_one.ensures in
    one-more c.args.graph.now.size c.update-item.result c.changes_graph-applied.result c.requires c.loop-update-test.true c.update-item.is
    c.loop-update.invariant c.changes_graph-applied.ensures told.added told.removed told.applied

pub returns : goal.returns
returns c =
    subst (λ (us : List Update). IsToldOf c.args.graph.now us c.loop-update.changes)
    (take_all c.loop-update.update-index c.args.updates.now c.loop-update-test.false) c.loop-update.invariant
