-- One text goes on after another.
use Rattle.std.proofs.Common.{◌++◌}
use Rattle.kc_lines.specs.Lines.{ending, fields_text, opening}
use Rattle.std.proofs.lemmas.Result.{on_err_weaker, on_ok_weaker}
use Rattle.kc_lists.proofs.Results.{on_err-anyhow}
use Rattle.kc_lines.proofs.Paging.{PassesOn-trans, PassesPart-later, PassesPart-wider}
use Rattle.kc_lines.proofs.lines.put_line.Goals as goal

pub returns-in_err-put_opening-clause-part : goal.returns-in_err-put_opening-clause-part
returns-in_err-put_opening-clause-part g c =
    on_err-anyhow c.from_residual.result (PassesPart-wider _ _ c.args.page.now (opening c.args.format)
    (fields_text c.args.format c.args.fields.now ++ ending c.args.format) c.in_err-put_opening.ensures.part)

pub returns-clause-passes : goal.returns-clause-passes
returns-clause-passes g c =
    on_ok_weaker c.put_ended.result (λ last.
    PassesOn-trans _ _ _ c.args.page.now c.put_opening.new.page c.put_ended.new.page (opening c.args.format)
    (fields_text c.args.format c.args.fields.now ++ ending c.args.format) c.in_ok-put_opening.ensures.passes last)
    c.put_ended.ensures.passes

pub returns-clause-part : goal.returns-clause-part
returns-clause-part g c =
    on_err_weaker c.put_ended.result (λ last.
    PassesPart-later _ _ _ c.args.page.now c.put_opening.new.page (opening c.args.format)
    (fields_text c.args.format c.args.fields.now ++ ending c.args.format) c.in_ok-put_opening.ensures.passes last)
    c.put_ended.ensures.part
