-- The option and the flag add their rules to the command.
use Rattle.std.proofs.Common.{ap₂, ◌∙◌}
use Rattle.std.proofs.lemmas.Result.{IfOk-weaker}
use Rattle.clap.specs.Simple.{with_rule}
use Rattle.kc_wishes.proofs.words.members_command.Goals as goal

pub returns-clause-app : goal.returns-clause-app
returns-clause-app c =
    IfOk-weaker c.arg-2.result _ _
    (λ made h. h.shape c.edges_flag.ensures.local
    ∙ ap₂ with_rule (c.in_ok-arg.ensures.shape c.core_option.ensures.local
    ∙ ap₂ with_rule c.in_ok-task.ensures.app c.core_option.ensures.rule) c.edges_flag.ensures.rule) c.arg-2.ensures
