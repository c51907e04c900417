-- The batches that have ended are those of the lines that were read.
use Rattle.std.proofs.Common.{ap, sym, ◌∙◌}
use Rattle.kc_stream.specs.Hearing.{Heard}
use Rattle.kc_watch.specs.States.{account_told, ended_in}
use Rattle.kc_watch.proofs.Fed.{fed-heard, heard_by}
use Rattle.kc_watch.proofs.Stated.{ended-are}
use Rattle.kc_watch.proofs.watcher.Watcher.ended_batches.Goals as goal

pub returns : goal.returns
returns c = λ fed f none.
    let same = fed-heard c.args.self.now fed f in
    c.ended_batches.ensures
    ∙ ended-are c.args.self.now.course.kept c.args.self.now.course.ended (heard_by c.args.self.now fed f).told
    (f.stands.keeps (ap (λ (h : Heard). h.refusal) (sym same) ∙ none)) ∙ ap (λ (h : Heard). ended_in (account_told h.told)) (sym same)
