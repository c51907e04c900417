-- One text goes on after another.
use Rattle.std.proofs.Common.{subst}
use Rattle.kc_lines.specs.Fields.{Label}
use Rattle.kc_lines.specs.Lines.{key_text, label_text}
use Rattle.kc_lines.specs.Pages.{PassesOn, PassesPart}
use Rattle.kc_lines.specs.declared.format.Format.TheVariants.{Json}
use Rattle.std.proofs.lemmas.Result.{on_err_weaker, on_ok_weaker}
use Rattle.kc_lists.proofs.Results.{on_err-anyhow}
use Rattle.kc_lines.proofs.Paging.{PassesOn-trans, PassesPart-later, PassesPart-wider}
use Rattle.kc_lines.proofs.lines.put_member.Goals as goal

pub returns-in_err-put_key-clause-part : goal.returns-in_err-put_key-clause-part
returns-in_err-put_key-clause-part g c =
    on_err-anyhow c.from_residual.result
    (PassesPart-wider _ _ c.args.page.now (key_text c.args.field.now.key) (label_text Json c.args.field.now.label) c.in_err-put_key.ensures.part)

pub returns-clause-passes : goal.returns-clause-passes
returns-clause-passes g c =
    on_ok_weaker c.put_value.result (λ last.
    PassesOn-trans _ _ _ c.args.page.now c.put_key.new.page c.put_value.new.page (key_text c.args.field.now.key) (label_text Json c.args.field.now.label)
    c.in_ok-put_key.ensures.passes (subst (λ (l : Label). PassesOn (g.O.Sink.taken c.put_key.new.out) (g.O.Sink.taken c.put_value.new.out)
    c.put_key.new.page c.put_value.new.page (label_text Json l)) c.value.ensures last))
    c.put_value.ensures.passes

pub returns-clause-part : goal.returns-clause-part
returns-clause-part g c =
    on_err_weaker c.put_value.result (λ last.
    PassesPart-later _ _ _ c.args.page.now c.put_key.new.page (key_text c.args.field.now.key) (label_text Json c.args.field.now.label)
    c.in_ok-put_key.ensures.passes (subst (λ (l : Label). PassesPart (g.O.Sink.taken c.put_key.new.out) (g.O.Sink.taken c.put_value.new.out)
    c.put_key.new.page (label_text Json l)) c.value.ensures last))
    c.put_value.ensures.part
