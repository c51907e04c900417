-- The update is told of with whether it changed the graph.
use Rattle.std.proofs.Common.{List, [], ◌∷◌, ◌++◌, cond, ap, ◌∙◌, subst}
use Rattle.std.specs.Prelude.{IfOk}
use Rattle.kc_graph.specs.declared.update.Update.{Update}
use Rattle.kc_keeper.specs.Keepers.{IsUpdated}
use Rattle.kc_keeper.proofs.InTurn.{told-more}
use Rattle.kc_keeper.proofs.keeper.Keeper.make_one.Goals as goal

pub returns-clause-told : goal.returns-clause-told
returns-clause-told c =
    let made = subst (λ r. IfOk r (λ applied. IsUpdated c.args.update c.args.self.now c.make-made.new.self applied)) c.in_ok-applied.was
    c.make-made.ensures.made in
    told-more c.args.update c.in_ok-applied.applied made.applied_is c.tell.ensures.added c.tell.ensures.removed
    (c.tell.ensures.applied
    ∙ ap (λ (us : List Update). cond c.in_ok-applied.applied (us ++ c.args.update ∷ []) us) c.in_ok-reserve.ensures.items)
