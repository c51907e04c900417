-- The option and the name of the file add their rules to the command.
use Rattle.std.proofs.Common.{ap₂, ◌∙◌}
use Rattle.std.proofs.lemmas.Result.{IfOk-weaker}
use Rattle.clap.specs.Simple.{with_rule}
use Rattle.kc_wishes.proofs.words.check_command.Goals as goal

pub returns-clause-app : goal.returns-clause-app
returns-clause-app c =
    IfOk-weaker c.arg-2.result _ _
    (λ made h. h.shape c.edges_rule.ensures.local
    ∙ ap₂ with_rule (c.in_ok-arg.ensures.shape c.threads_option.ensures.local
    ∙ ap₂ with_rule c.in_ok-command.ensures.app c.threads_option.ensures.rule) c.edges_rule.ensures.rule) c.arg-2.ensures
