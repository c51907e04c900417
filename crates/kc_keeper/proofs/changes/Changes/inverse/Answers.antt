-- The opposites of those that were applied take them back.
use Rattle.std.proofs.Common.{ap, ◌∙◌}
use Rattle.std.proofs.lemmas.Result.{IfOk-weaker}
use Rattle.kc_keeper.specs.Batches.{inverse_of, made_in_turn}
use Rattle.kc_keeper.proofs.TakenBack.{taken-back}
use Rattle.kc_keeper.proofs.changes.Changes.inverse.Goals as goal

pub returns-clause-takes_back : goal.returns-clause-takes_back
returns-clause-takes_back c =
    IfOk-weaker c.opposites.result _ _ (λ back is g us applied. ap (made_in_turn (made_in_turn g us))
    (is ∙ (ap inverse_of (c.deref.ensures.value ∙ applied))) ∙ taken-back g us) c.opposites.ensures
