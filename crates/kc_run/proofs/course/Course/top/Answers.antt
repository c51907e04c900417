-- The journal's top is the greatest core number.
use Rattle.std.proofs.Common.{◌≡◌, ap, subst, ◌∙◌}
use Rattle.kc_journal.specs.Journals.{Journalled}
use Rattle.kc_levels.specs.Levels.{IsTop}
use Rattle.kc_run.specs.Courses.{Coursed}
use Rattle.kc_run.specs.declared.course.Course.TheInside.{Inside}
use Rattle.kc_levels.proofs.Topping.{top-is}
use Rattle.kc_run.proofs.course.Course.top.Goals as goal

pub returns : goal.returns
returns c =
    let at : c.self-inside.inside.0.0.journal ≡ c.args.self.now.journal =
    ap (λ (i : Inside). i.parts.journal) c.self-inside.view_is ∙ ap (λ (s : Coursed). s.journal) c.self.view_is in
    top-is c.args.self.now.journal.levels.core c.top.result (subst (λ (j : Journalled). IsTop j.levels.core c.top.result) at c.top.ensures)
