-- The options add their rules to the command.
use Rattle.std.proofs.Common.{ap, ap₂, ◌∙◌}
use Rattle.std.proofs.lemmas.Result.{IfOk-weaker}
use Rattle.clap.specs.Simple.{with_rule}
use Rattle.kc_wishes.specs.Wishes.{with_answers, with_saving, with_start}
use Rattle.kc_wishes.proofs.watch_words.watch_command.Goals as goal

pub returns-clause-app : goal.returns-clause-app
returns-clause-app c =
    IfOk-weaker c.with_saving.result _ _
    (λ made h. h ∙ ap with_saving (c.in_ok-started.ensures.app
    ∙ ap with_start (c.in_ok-answered.ensures.app
    ∙ ap with_answers (c.in_ok-worked.ensures.shape c.workers_option.ensures.local
    ∙ ap₂ with_rule c.stream_command.ensures.app c.workers_option.ensures.rule)))) c.with_saving.ensures.app
