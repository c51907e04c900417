-- Each command of a task adds to the command.
use Rattle.std.proofs.Common.{ap, ◌∙◌, codes}
use Rattle.std.proofs.lemmas.Result.{IfOk-weaker}
use Rattle.clap.specs.Simple.{App, with_subcommand}
use Rattle.kc_wishes.specs.Wishes.{task_command}
use Rattle.kc_wishes.proofs.words.with_tasks.Goals as goal

-- the command with one more
abbrev more : App → App → App
more task a = with_subcommand a task.top

pub returns : goal.returns
returns c =
    IfOk-weaker c.with_task-2.result _ _
    (λ made h. h ∙ ap (more (task_command (codes "order"))) (c.in_ok-layers.ensures
    ∙ ap (more (task_command (codes "layers"))) c.in_ok-with_cores.ensures))
    c.with_task-2.ensures
