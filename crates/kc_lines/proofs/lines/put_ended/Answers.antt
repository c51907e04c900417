-- One text goes on after another.
use Rattle.kc_lines.specs.Lines.{ending, fields_text}
use Rattle.std.proofs.lemmas.Result.{on_err_weaker, on_ok_weaker}
use Rattle.kc_lists.proofs.Results.{on_err-anyhow}
use Rattle.kc_lines.proofs.Paging.{PassesOn-trans, PassesPart-later, PassesPart-wider}
use Rattle.kc_lines.proofs.lines.put_ended.Goals as goal

pub returns-in_err-put_fields-clause-part : goal.returns-in_err-put_fields-clause-part
returns-in_err-put_fields-clause-part g c =
    on_err-anyhow c.from_residual.result
    (PassesPart-wider _ _ c.args.page.now (fields_text c.args.format c.args.fields.now) (ending c.args.format) c.in_err-put_fields.ensures.part)

pub returns-clause-passes : goal.returns-clause-passes
returns-clause-passes g c =
    on_ok_weaker c.put_ending.result (λ last.
    PassesOn-trans _ _ _ c.args.page.now c.put_fields.new.page c.put_ending.new.page (fields_text c.args.format c.args.fields.now)
    (ending c.args.format) c.in_ok-put_fields.ensures.passes last)
    c.put_ending.ensures.passes

pub returns-clause-part : goal.returns-clause-part
returns-clause-part g c =
    on_err_weaker c.put_ending.result (λ last.
    PassesPart-later _ _ _ c.args.page.now c.put_fields.new.page (fields_text c.args.format c.args.fields.now) (ending c.args.format)
    c.in_ok-put_fields.ensures.passes last)
    c.put_ending.ensures.part
