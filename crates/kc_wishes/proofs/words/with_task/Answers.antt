-- The command of the task is one more.
use Rattle.std.proofs.Common.{ap, ◌∙◌}
use Rattle.std.proofs.lemmas.Result.{IfOk-weaker}
use Rattle.clap.specs.Simple.{App, app_of, with_subcommand}
use Rattle.kc_wishes.proofs.words.with_task.Goals as goal

pub returns : goal.returns
returns c =
    IfOk-weaker c.subcommand.result _ _
    (λ made h. h.shape c.in_ok-task.ensures.local ∙ ap (λ (a : App). with_subcommand (app_of c.args.command) a.top) c.in_ok-task.ensures.app)
    c.subcommand.ensures
