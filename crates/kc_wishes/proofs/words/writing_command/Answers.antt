-- Both options add their rules to the command.
use Rattle.std.proofs.Common.{ap₂, ◌∙◌}
use Rattle.std.proofs.lemmas.Result.{IfOk-weaker}
use Rattle.clap.specs.Simple.{with_rule}
use Rattle.kc_wishes.proofs.words.writing_command.Goals as goal

pub returns-clause-app : goal.returns-clause-app
returns-clause-app c =
    IfOk-weaker c.arg-2.result _ _
    (λ made h. h.shape c.output_option.ensures.local
    ∙ ap₂ with_rule (c.in_ok-arg.ensures.shape c.format_option.ensures.local
    ∙ ap₂ with_rule c.in_ok-command.ensures.app c.format_option.ensures.rule) c.output_option.ensures.rule) c.arg-2.ensures
