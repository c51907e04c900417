-- Each command of a task adds to the command.
use Rattle.std.proofs.Common.{ap, ap₂, ◌∙◌, codes}
use Rattle.std.proofs.lemmas.Result.{IfOk-weaker}
use Rattle.clap.specs.Simple.{App, with_subcommand}
use Rattle.kc_wishes.specs.Wishes.{task_command}
use Rattle.kc_wishes.proofs.words.with_cores.Goals as goal

-- the command with one more
abbrev more : App → App → App
more task a = with_subcommand a task.top

pub returns : goal.returns
returns c =
    IfOk-weaker c.subcommand.result _ _
    (λ made h. h.shape c.in_ok-members_command.ensures.local
    ∙ ap₂ with_subcommand (c.in_ok-sizes.ensures ∙ ap (more (task_command (codes "sizes"))) (c.in_ok-numbers.ensures
    ∙ ap (more (task_command (codes "numbers"))) c.in_ok-bare_command.ensures)) (ap (λ (a : App). a.top) c.in_ok-members_command.ensures.app))
    c.subcommand.ensures
