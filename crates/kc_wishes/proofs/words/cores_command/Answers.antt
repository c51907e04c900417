-- The commands of the check and of a stream are two more.
use Rattle.std.proofs.Common.{ap, ap₂, ◌∙◌}
use Rattle.std.proofs.lemmas.Result.{IfOk-weaker}
use Rattle.clap.specs.Simple.{App, with_subcommand}
use Rattle.kc_wishes.proofs.words.cores_command.Goals as goal

pub returns : goal.returns
returns c =
    let checks = c.in_ok-command.ensures.shape c.in_ok-check_command.ensures.local
    ∙ ap₂ with_subcommand c.in_ok-tasks.ensures (ap (λ (a : App). a.top) c.in_ok-check_command.ensures.app) in
    IfOk-weaker c.subcommand-2.result _ _
    (λ made h. h.shape c.in_ok-watch_command.ensures.local ∙ ap₂ with_subcommand checks (ap (λ (a : App). a.top) c.in_ok-watch_command.ensures.app))
    c.subcommand-2.ensures
