-- Nothing was answered before, so the list that is told is all that was asked.
use Rattle.std.proofs.Common.{subst}
use Rattle.kc_view.specs.Answers.{Answers}
use Rattle.kc_view.specs.Views.{TellsList}
use Rattle.kc_view.proofs.Asked.{one-list}
use Rattle.kc_view.proofs.asking.has_edge.Goals as goal

pub returns-clause-asks : goal.returns-clause-asks
returns-clause-asks g c =
    let now : Answers = (g.V.View.shown c.degree_of.new.view).kept in
    let u = c.args.update.u in
    one-list now u (subst (λ (a : Answers). TellsList a now u) c.requires.fresh c.in_ok-degree_of.ensures.told)
