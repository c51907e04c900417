-- A field goes on behind those before it.
use Rattle.std.proofs.Common.{◌∙◌, ℕ, List, ap, arith, drop, suc, subst, sym, take, take_all}
use Rattle.std.specs.List.{flat_map}
use Rattle.kc_lists.proofs.Results.{on_err-anyhow}
use Rattle.kc_lines.specs.Fields.{KeyedLabel}
use Rattle.kc_lines.specs.Lines.{later_text}
use Rattle.kc_lines.specs.Pages.{PassesOn, PassesPart}
use Rattle.kc_lines.proofs.Paging.{PassesOn-trans, PassesPart-later, PassesPart-wider}
use Rattle.kc_lines.proofs.Turning.{flat_map-parts, flat_map-turn}
use Rattle.kc_lines.proofs.lines.put_later_fields.Goals as goal

pub loop-field-preserved : goal.loop-field-preserved
loop-field-preserved g c =
    let text : KeyedLabel → List ℕ = later_text c.args.format in
    let i : ℕ = c.loop-field.field-index in
    let x : KeyedLabel = c.field-item.result in
    record {
      passes = subst (PassesOn (g.O.Sink.taken c.args.out.now) (g.O.Sink.taken c.put_later.new.out) c.args.page.now c.put_later.new.page)
          (sym (flat_map-turn text c.args.fields.now i x c.loop-field-test.true c.field-item.is))
          (PassesOn-trans _ _ _ c.args.page.now c.loop-field.page c.put_later.new.page (flat_map text (take i c.args.fields.now)) (text x)
          c.loop-field.invariant.passes c.in_ok-put_later.ensures.passes);
      faultless = c.in_ok-put_later.ensures.cause.kept ∙ c.loop-field.invariant.faultless;
    }

pub returns-in_err-put_later-clause-part : goal.returns-in_err-put_later-clause-part
returns-in_err-put_later-clause-part g c =
    let text : KeyedLabel → List ℕ = later_text c.args.format in
    let i : ℕ = c.loop-field.field-index in
    let x : KeyedLabel = c.field-item.result in
    on_err-anyhow c.from_residual.result
    (subst (PassesPart (g.O.Sink.taken c.args.out.now) (g.O.Sink.taken c.put_later.new.out) c.args.page.now)
    (flat_map-parts text c.args.fields.now i x c.loop-field-test.true c.field-item.is)
    (PassesPart-later _ _ _ c.args.page.now c.loop-field.page (flat_map text (take i c.args.fields.now)) _ c.loop-field.invariant.passes
    (PassesPart-wider _ _ c.loop-field.page (text x) (flat_map text (drop (suc i) c.args.fields.now)) c.in_err-put_later.ensures.part)))

pub returns-clause-passes : goal.returns-clause-passes
returns-clause-passes g c =
    subst (PassesOn (g.O.Sink.taken c.args.out.now) (g.O.Sink.taken c.loop-field.out) c.args.page.now c.loop-field.page)
    (ap (flat_map (later_text c.args.format)) (take_all c.loop-field.field-index c.args.fields.now (omega (arith, c.loop-field-test.false))))
    c.loop-field.invariant.passes
