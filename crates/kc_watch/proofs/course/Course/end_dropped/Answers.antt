-- The line about the batch is put, which is counted, and the graph stays.
use Rattle.std.proofs.Common.{◌≡◌, [], ℕ, ap, sym, ◌∙◌, append-nil, arith, refl}
use Rattle.kc_watch.specs.Accounts.{one_ended}
use Rattle.kc_reply.specs.Facts as fact
use Rattle.kc_reply.specs.Texts.{fact_text}
use Rattle.kc_watch.proofs.Lines.{on-err}
use Rattle.kc_watch.proofs.Parts.{dropped-keeps, dropped-number}
use Rattle.kc_watch.proofs.course.Course.end_dropped.Goals as goal

pub returns-in_err-put_reply_line-clause-put : goal.returns-in_err-put_reply_line-clause-put
returns-in_err-put_reply_line-clause-put c = (
  [],
  c.in_err-put_reply_line.ensures.err ∙ sym (append-nil c.args.out.now.items),
  λ told empty k. on-err c.from_residual.result _ _ c.from_residual.ensures.0 refl,
)

pub returns-clause-keeps : goal.returns-clause-keeps
returns-clause-keeps c = λ told empty k.
    let counted : c.saturating_add-batch.result ≡ one_ended c.args.self.now.ended = omega (arith, c.saturating_add-batch.ensures) in
    dropped-keeps told c.args.self.now.kept c.args.self.now.ended c.saturating_add-batch.result empty counted k

pub returns-clause-put : goal.returns-clause-put
returns-clause-put c =
    let counted : c.saturating_add-batch.result ≡ one_ended c.args.self.now.ended = omega (arith, c.saturating_add-batch.ensures) in (
      fact_text c.args.format (fact.Refused c.saturating_add-batch.result c.args.refusal),
      c.in_ok-put_reply_line.ensures.ok,
      λ told empty k. (
        ap (λ (n : ℕ). fact_text c.args.format (fact.Refused n c.args.refusal))
            (counted ∙ dropped-number told c.args.self.now.kept c.args.self.now.ended empty k),
        tt,
      ),
    )
