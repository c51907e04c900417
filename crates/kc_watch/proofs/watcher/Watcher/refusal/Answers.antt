-- The lines that were read are those that have ended, or one of them is refused.
use Rattle.std.proofs.Common.{ap, sym, ◌∙◌}
use Rattle.kc_stream.specs.Hearing.{Heard}
use Rattle.kc_watch.proofs.Fed.{fed-heard}
use Rattle.kc_watch.proofs.watcher.Watcher.refusal.Goals as goal

pub returns-clause-so_far : goal.returns-clause-so_far
returns-clause-so_far c = λ fed f. c.refusal.ensures ∙ (f.stands.gathers.refusal ∙ ap (λ (h : Heard). h.refusal) (sym (fed-heard c.args.self.now fed f)))

pub returns-clause-at_end : goal.returns-clause-at_end
returns-clause-at_end c = λ fed ended. c.refusal.ensures ∙ ended.0
