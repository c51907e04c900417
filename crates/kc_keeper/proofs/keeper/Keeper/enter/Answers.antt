-- The numbers of what the plan moves were kept before it was entered.
use Rattle.std.proofs.Common.{sym, ap, subst}
use Rattle.std.proofs.lemmas.Result.{IfErr-weaker}
use Rattle.kc_graph.specs.Lawful.{Ranked}
use Rattle.kc_journal.specs.Journals.{Journalled}
use Rattle.kc_keeper.specs.Earlier.{AreEarlier}
use Rattle.kc_keeper.proofs.KeptNumbers.{keeps-entered}
use Rattle.kc_keeper.proofs.keeper.Keeper.enter.Goals as goal

pub returns-clause-earlier : goal.returns-clause-earlier
returns-clause-earlier c start h =
    keeps-entered c.enter_plan.result c.in-Ok.plan.moves c.plan_update.ensures.kept c.in-Ok.ensures.moved c.enter_plan.ensures.moved
    (IfErr-weaker c.enter_plan.result _ _ (λ _ same. ap (λ (j : Journalled). j.levels.core) same) c.enter_plan.ensures.same) start
    (subst (λ (s : Ranked). AreEarlier start s.core c.args.earlier.now) (sym c.self.view_is) h)
