-- The last line was read behind those before.
use Rattle.std.proofs.Common.{◌≡◌, ◌++◌, ℕ, List, Err, ap, sym, subst, ◌∙◌}
use Rattle.std.proofs.lemmas.Result.{err_from_is_err_and}
use Rattle.kc_text.specs.Lines.{lines}
use Rattle.kc_dialect.specs.declared.bad_line.BadLine.{BadLine}
use Rattle.kc_dialect.specs.declared.fault.RewriteFault.{RewriteFault}
use Rattle.kc_dialect.specs.declared.fault.RewriteFault.TheVariants.{Bad}
use Rattle.kc_dialect.specs.Dialects.{bad_lines, bad_lines_after, plain_lines}
use Rattle.kc_dialect.specs.Skipped.{AreSkipped}
use Rattle.kc_dialect.specs.Steps.{StopsAt}
use Rattle.kc_dialect.proofs.Fed.{all-bad, all-written, last-bad}
use Rattle.kc_dialect.proofs.rewriter.Rewriter.finish.Goals as goal

pub returns-in_err-read-clause-bad : goal.returns-in_err-read-clause-bad
returns-in_err-read-clause-bad c = λ bad fed written e f.
    let p = err_from_is_err_and c.from_residual.result c.from_residual.ensures.1 in
    let same : c.in_err-read.field-0.0 ≡ Bad bad = cc (p.1, p.2, e) in
    last-bad c.args.self fed written bad
    (subst (λ (t : List ℕ). StopsAt c.args.self.lines.dialect c.args.self.lines.lines (lines t) bad) c.deref.ensures.value
    (c.in_err-read.ensures.stopped bad (ap (λ (f : RewriteFault). Err f) same))) f

pub returns-clause-text : goal.returns-clause-text
returns-clause-text c =
    let r = c.args.self.lines in (
      plain_lines r.dialect r.lines (lines c.args.self.carry.items),
      c.in_ok-read.ensures.read.text ∙ ap (λ (t : List ℕ). c.args.out.now.items ++ plain_lines r.dialect r.lines (lines t)) c.deref.ensures.value,
      λ fed written f. all-written c.args.self fed written f,
    )

pub returns-clause-skipped : goal.returns-clause-skipped
returns-clause-skipped c = λ fed written f.
    let r = c.args.self.lines in
    let (done, skipped, unbroken, is) = all-bad c.args.self fed written f in
    subst (AreSkipped c.read.new.self.skipped)
    (ap (λ (t : List ℕ). bad_lines r.dialect done ++ bad_lines_after r.dialect r.lines (lines t)) c.deref.ensures.value ∙ sym is)
    (c.in_ok-read.ensures.read.skipped (bad_lines r.dialect done) skipped)

pub returns-clause-unbroken : goal.returns-clause-unbroken
returns-clause-unbroken c = λ fed written f stop.
    let r = c.args.self.lines in
    let (done, skipped, unbroken, is) = all-bad c.args.self fed written f in
    is ∙ ap (λ (t : List BadLine). t ++ bad_lines_after r.dialect r.lines (lines c.args.self.carry.items)) (unbroken stop)
    ∙ ap (λ (t : List ℕ). bad_lines_after r.dialect r.lines (lines t)) (sym c.deref.ensures.value) ∙ c.in_ok-read.ensures.read.unbroken stop
