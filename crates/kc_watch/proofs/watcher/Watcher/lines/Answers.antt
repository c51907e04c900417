-- The lines that were read are those that have ended, or one of them is refused.
use Rattle.std.proofs.Common.{ap, sym, ◌∙◌}
use Rattle.kc_stream.specs.Hearing.{Heard}
use Rattle.kc_watch.proofs.Fed.{fed-heard}
use Rattle.kc_watch.proofs.watcher.Watcher.lines.Goals as goal

pub returns : goal.returns
returns c = λ fed f. c.lines.ensures ∙ (f.stands.gathers.lines ∙ ap (λ (h : Heard). h.lines) (sym (fed-heard c.args.self.now fed f)))
