-- The first field goes on, and the later ones behind it.
use Rattle.std.proofs.Common.{ℕ, List, subst, sym}
use Rattle.std.specs.List.{flat_map}
use Rattle.std.specs.Prelude.{OnErr, OnOk}
use Rattle.std.proofs.lemmas.Result.{on_err_weaker, on_ok_weaker}
use Rattle.kc_lines.specs.Fields.{KeyedLabel}
use Rattle.kc_lines.specs.Lines.{field_text, fields_text, later_text}
use Rattle.kc_lines.specs.Pages.{PassesOn, PassesPart}
use Rattle.kc_lines.proofs.Paging.{PassesOn-trans, PassesPart-later}
use Rattle.kc_lines.proofs.lines.put_fields.Goals as goal

pub returns-clause-passes : goal.returns-clause-passes
returns-clause-passes g c =
    let first : List ℕ = field_text c.args.format c.in-Some.first.now in
    let later : List ℕ = flat_map (later_text c.args.format) c.in-Some.later.now in
    subst (λ (xs : List KeyedLabel). OnOk c.put_later_fields.result (PassesOn (g.O.Sink.taken c.args.out.now)
    (g.O.Sink.taken c.put_later_fields.new.out) c.args.page.now c.put_later_fields.new.page (fields_text c.args.format xs)))
    (sym c.in-Some.ensures.cases.0)
    (on_ok_weaker c.put_later_fields.result (λ last.
    PassesOn-trans _ _ _ c.args.page.now c.put_field.new.page c.put_later_fields.new.page first later c.in_ok-put_field.ensures.passes last)
    c.put_later_fields.ensures.passes)

pub returns-clause-part : goal.returns-clause-part
returns-clause-part g c =
    let first : List ℕ = field_text c.args.format c.in-Some.first.now in
    let later : List ℕ = flat_map (later_text c.args.format) c.in-Some.later.now in
    subst (λ (xs : List KeyedLabel). OnErr c.put_later_fields.result (PassesPart (g.O.Sink.taken c.args.out.now)
    (g.O.Sink.taken c.put_later_fields.new.out) c.args.page.now (fields_text c.args.format xs)))
    (sym c.in-Some.ensures.cases.0)
    (on_err_weaker c.put_later_fields.result (λ last.
    PassesPart-later _ _ _ c.args.page.now c.put_field.new.page first later c.in_ok-put_field.ensures.passes last)
    c.put_later_fields.ensures.part)
