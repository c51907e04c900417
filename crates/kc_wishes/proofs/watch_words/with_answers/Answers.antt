-- The four options add their rules to the command.
use Rattle.std.proofs.Common.{ap, ap₂, ◌∙◌}
use Rattle.std.proofs.lemmas.Result.{IfOk-weaker}
use Rattle.clap.specs.Simple.{app_of, with_rule}
use Rattle.kc_wishes.proofs.watch_words.with_answers.Goals as goal

pub returns-clause-app : goal.returns-clause-app
returns-clause-app c =
    IfOk-weaker c.arg-4.result _ _
    (λ made h. h.shape c.format_option.ensures.local
    ∙ ap₂ with_rule (c.in_ok-arg.ensures.shape c.value_option-bad_lines.ensures.local
    ∙ ap₂ with_rule (c.in_ok-entered.ensures.shape c.enter_option.ensures.local
    ∙ ap₂ with_rule (c.in_ok-shown.ensures.shape c.value_option-show.ensures.local
    ∙ ap (with_rule (app_of c.args.command)) c.value_option-show.ensures.rule) c.enter_option.ensures.rule)
    c.value_option-bad_lines.ensures.rule) c.format_option.ensures.rule) c.arg-4.ensures
