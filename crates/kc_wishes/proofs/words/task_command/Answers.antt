-- The options of the ids and of the threads and the name of the file add their rules to the command.
use Rattle.std.proofs.Common.{ap, ap₂, ◌∙◌}
use Rattle.std.proofs.lemmas.Result.{IfOk-weaker}
use Rattle.clap.specs.Simple.{with_rule}
use Rattle.kc_wishes.specs.Wishes.{with_dialect}
use Rattle.kc_wishes.proofs.words.task_command.Goals as goal

pub returns-clause-app : goal.returns-clause-app
returns-clause-app c =
    let named = c.in_ok-named.ensures.shape c.ids_option.ensures.local
    ∙ ap₂ with_rule (c.in_ok-command.ensures.app ∙ ap with_dialect c.in_ok-writing_command.ensures.app) c.ids_option.ensures.rule in
    IfOk-weaker c.arg-3.result _ _
    (λ made h. h.shape c.edges_rule.ensures.local
    ∙ ap₂ with_rule (c.in_ok-arg.ensures.shape c.threads_option.ensures.local ∙ ap₂ with_rule named c.threads_option.ensures.rule) c.edges_rule.ensures.rule)
    c.arg-3.ensures
