-- The flag and the option add their rules to the command.
use Rattle.std.proofs.Common.{ap, ap₂, ◌∙◌}
use Rattle.std.proofs.lemmas.Result.{IfOk-weaker}
use Rattle.clap.specs.Simple.{with_rule}
use Rattle.kc_wishes.specs.Wishes.{with_dialect}
use Rattle.kc_wishes.proofs.words.sweep_command.Goals as goal

pub returns-clause-app : goal.returns-clause-app
returns-clause-app c =
    IfOk-weaker c.arg-2.result _ _
    (λ made h. h.shape c.pieces_option.ensures.local
    ∙ ap₂ with_rule (c.in_ok-arg.ensures.shape c.stream_flag.ensures.local
    ∙ ap₂ with_rule (c.in_ok-command.ensures.app ∙ ap with_dialect c.in_ok-certificate_command.ensures.app) c.stream_flag.ensures.rule)
    c.pieces_option.ensures.rule) c.arg-2.ensures
