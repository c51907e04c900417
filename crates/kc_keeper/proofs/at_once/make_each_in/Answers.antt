-- One update more is made in the graph, and told of with whether it changed it.
use Rattle.std.proofs.Common.{List, [], ◌∷◌, ◌++◌, cond, ap, ◌∙◌}
use Rattle.kc_graph.specs.declared.update.Update.{Update}
use Rattle.kc_keeper.proofs.InTurn.{one-more_in, told-more}
use Rattle.kc_keeper.proofs.at_once.make_each_in.Goals as goal

pub loop-update-preserved : goal.loop-update-preserved
loop-update-preserved c =
    let u : Update = c.update-item.result in
    let applied-is = c.in_ok-applied.ensures.applied in
    one-more_in u u c.loop-update.invariant c.loop-update-test.true c.update-item.is c.in_ok-applied.ensures.graph
    (told-more u c.in_ok-applied.applied applied-is c.tell.ensures.added c.tell.ensures.removed
    (c.tell.ensures.applied
    ∙ ap (λ (us : List Update). cond c.in_ok-applied.applied (us ++ u ∷ []) us) c.in_ok-reserve.ensures.items))
