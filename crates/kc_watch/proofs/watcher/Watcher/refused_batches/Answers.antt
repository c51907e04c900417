-- The batches that were dropped are those of the lines that have ended, or one of the lines ends the reading.
use Rattle.std.proofs.Common.{ap, sym, ◌∙◌}
use Rattle.kc_stream.specs.Hearing.{Heard}
use Rattle.kc_watch.proofs.Fed.{fed-heard}
use Rattle.kc_watch.proofs.watcher.Watcher.refused_batches.Goals as goal

pub returns-clause-so_far : goal.returns-clause-so_far
returns-clause-so_far c = λ fed f.
    c.refused_batches.ensures
    ∙ (f.stands.gathers.refused_batches ∙ ap (λ (h : Heard). h.refused_batches) (sym (fed-heard c.args.self.now fed f)))

pub returns-clause-at_end : goal.returns-clause-at_end
returns-clause-at_end c = λ fed ended. c.refused_batches.ensures ∙ ended.1
