-- One text goes on after another.
use Rattle.kc_lines.specs.Lines.{field_text, separator}
use Rattle.std.proofs.lemmas.Result.{on_err_weaker, on_ok_weaker}
use Rattle.kc_lists.proofs.Results.{on_err-anyhow}
use Rattle.kc_lines.proofs.Paging.{PassesOn-trans, PassesPart-later, PassesPart-wider}
use Rattle.kc_lines.proofs.lines.put_later.Goals as goal

pub returns-in_err-put_separator-clause-part : goal.returns-in_err-put_separator-clause-part
returns-in_err-put_separator-clause-part g c =
    on_err-anyhow c.from_residual.result
    (PassesPart-wider _ _ c.args.page.now (separator c.args.format) (field_text c.args.format c.args.field.now) c.in_err-put_separator.ensures.part)

pub returns-clause-passes : goal.returns-clause-passes
returns-clause-passes g c =
    on_ok_weaker c.put_field.result (λ last.
    PassesOn-trans _ _ _ c.args.page.now c.put_separator.new.page c.put_field.new.page (separator c.args.format)
    (field_text c.args.format c.args.field.now) c.in_ok-put_separator.ensures.passes last)
    c.put_field.ensures.passes

pub returns-clause-part : goal.returns-clause-part
returns-clause-part g c =
    on_err_weaker c.put_field.result (λ last.
    PassesPart-later _ _ _ c.args.page.now c.put_separator.new.page (separator c.args.format) (field_text c.args.format c.args.field.now)
    c.in_ok-put_separator.ensures.passes last)
    c.put_field.ensures.part
