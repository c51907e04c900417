-- The watcher was fed the text, or there is a cause why not.
use Rattle.std.proofs.Common.{◌≡◌, refl, subst, sym}
use Rattle.std.proofs.KnownBytes.{Consumes-whole}
use Rattle.kc_io.specs.LineEnds.{with_end}
use Rattle.kc_dialogue.specs.Openings.{HasOpened}
use Rattle.kc_watch.specs.Text.{reply, reply_at_end}
use Rattle.kc_watch.specs.Watching.{WasFed}
use Rattle.kc_watch.specs.declared.options.WatchOptions.{WatchOptions}
use Rattle.kc_cores.proofs.watching.open_left.Goals as goal

pub returns-in-Ok-clause-opened : goal.returns-in-Ok-clause-opened
returns-in-Ok-clause-opened g c =
    let (given, took, opened, _) = c.in-Ok.ensures.given in (
      given,
      Consumes-whole (g.I.Source.left c.args.input.now) (g.I.Source.left c.open_with.new.source) given (λ all. given ≡ all) took c.in-Ok.ensures.read refl,
      subst (λ (o : WatchOptions). HasOpened (reply o) (reply_at_end o) (WasFed c.open_with.new.replier) (with_end given) c.in-Ok.opening.flow
          c.in-Ok.opening.text.items) (sym c.in-Ok.ensures.settings) opened,
    )
