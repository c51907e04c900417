-- The fresh run has the state of before, of which the plan is made and in which it is entered.
use Rattle.std.proofs.Common.{◌≡◌, sym, ◌∙◌, subst}
use Rattle.kc_graph.specs.Lawful.{Ranked}
use Rattle.kc_graph.specs.declared.update.Update.{Update}
use Rattle.kc_journal.specs.Journals.{Journalled, ranked}
use Rattle.kc_keeper.specs.Earlier.{AreEarlier}
use Rattle.kc_keeper.specs.Keepers.{IsUpdated}
use Rattle.kc_keeper.proofs.Entered.{same-run}
use Rattle.kc_keeper.proofs.KeptNumbers.{kept-after}
use Rattle.kc_keeper.proofs.keeper.Keeper.enter_anew.Goals as goal

pub returns-in_err-plan-clause-earlier : goal.returns-in_err-plan-clause-earlier
returns-in_err-plan-clause-earlier c start h =
    let back : ranked c.restart.new.self ≡ c.args.self.now =
    same-run c.self.inside.journal c.vertices-vertices.result c.vertices-vertices.ensures.graph c.in_ok-words.ensures.restarted ∙ c.self.view_is in
    c.plan_update.ensures.kept start (subst (λ (s : Ranked). AreEarlier start s.core c.args.earlier.now) (sym back) h)

pub returns-in-Ok-clause-made : goal.returns-in-Ok-clause-made
returns-in-Ok-clause-made c =
    let back : ranked c.restart.new.self ≡ c.args.self.now =
    same-run c.self.inside.journal c.vertices-vertices.result c.vertices-vertices.ensures.graph c.in_ok-words.ensures.restarted ∙ c.self.view_is in
    subst (λ (u : Update). IsUpdated u c.args.self.now (ranked c.enter_plan.new.journal) c.in-Ok.applied) c.in_ok-plan.ensures.planned.update_is
    (subst (λ (s : Ranked). IsUpdated c.in_ok-plan.plan.update s (ranked c.enter_plan.new.journal) c.in-Ok.applied) back c.in-Ok.ensures.made)

pub returns-in-Ok-clause-earlier : goal.returns-in-Ok-clause-earlier
returns-in-Ok-clause-earlier c start h =
    let back : ranked c.restart.new.self ≡ c.args.self.now =
    same-run c.self.inside.journal c.vertices-vertices.result c.vertices-vertices.ensures.graph c.in_ok-words.ensures.restarted ∙ c.self.view_is in
    kept-after c.in_ok-plan.plan.moves
    (c.plan_update.ensures.kept start (subst (λ (s : Ranked). AreEarlier start s.core c.args.earlier.now) (sym back) h)) c.in_ok-plan.ensures.moved
    c.in-Ok.ensures.moved

pub returns-in-Err-clause-earlier : goal.returns-in-Err-clause-earlier
returns-in-Err-clause-earlier c start h =
    let back : ranked c.restart.new.self ≡ c.args.self.now =
    same-run c.self.inside.journal c.vertices-vertices.result c.vertices-vertices.ensures.graph c.in_ok-words.ensures.restarted ∙ c.self.view_is in
    subst (λ (j : Journalled). AreEarlier start j.levels.core c.plan_update.new.earlier) (sym c.in-Err.ensures.same)
    (c.plan_update.ensures.kept start (subst (λ (s : Ranked). AreEarlier start s.core c.args.earlier.now) (sym back) h))
