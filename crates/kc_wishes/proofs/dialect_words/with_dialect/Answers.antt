-- Each option adds its rule to the command.
use Rattle.std.proofs.Common.{ap, ap₂, ◌∙◌}
use Rattle.std.proofs.lemmas.Result.{IfOk-weaker}
use Rattle.clap.specs.Simple.{app_of, with_rule}
use Rattle.kc_wishes.proofs.dialect_words.with_dialect.Goals as goal

pub returns-clause-app : goal.returns-clause-app
returns-clause-app c =
    IfOk-weaker c.arg-4.result _ _
    (λ made h. h.shape c.value_option-bad_lines.ensures.local
    ∙ ap₂ with_rule (c.in_ok-arg-2.ensures.shape c.skip_option.ensures.local
    ∙ ap₂ with_rule (c.in_ok-command.ensures.shape c.value_option-separator.ensures.local
    ∙ ap₂ with_rule (c.in_ok-arg.ensures.shape c.value_option-columns.ensures.local
    ∙ ap (with_rule (app_of c.args.command)) c.value_option-columns.ensures.rule) c.value_option-separator.ensures.rule) c.skip_option.ensures.rule)
    c.value_option-bad_lines.ensures.rule) c.arg-4.ensures
