-- The two options add their rules to the command.
use Rattle.std.proofs.Common.{ap, ap₂, ◌∙◌}
use Rattle.std.proofs.lemmas.Result.{IfOk-weaker}
use Rattle.clap.specs.Simple.{app_of, with_rule}
use Rattle.kc_wishes.proofs.watch_words.with_start.Goals as goal

pub returns-clause-app : goal.returns-clause-app
returns-clause-app c =
    IfOk-weaker c.arg-2.result _ _
    (λ made h. h.shape c.value_option-load.ensures.local
    ∙ ap₂ with_rule (c.in_ok-arg.ensures.shape c.value_option-from.ensures.local
    ∙ ap (with_rule (app_of c.args.command)) c.value_option-from.ensures.rule) c.value_option-load.ensures.rule) c.arg-2.ensures
