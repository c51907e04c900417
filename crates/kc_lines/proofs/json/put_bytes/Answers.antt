-- A byte goes on behind those before it.
use Rattle.std.proofs.Common.{◌≡◌, ◌∙◌, ℕ, ap, arith, drop, get_or, suc, subst, sym, take, take_all}
use Rattle.std.proofs.lemmas.List.{get_or_default}
use Rattle.std.specs.List.{flat_map}
use Rattle.kc_lists.proofs.Results.{on_err-anyhow}
use Rattle.kc_lines.specs.Json.{json_byte}
use Rattle.kc_lines.specs.Pages.{PassesOn, PassesPart}
use Rattle.kc_lines.proofs.Paging.{PassesOn-trans, PassesPart-later, PassesPart-wider}
use Rattle.kc_lines.proofs.Turning.{flat_map-parts, flat_map-turn}
use Rattle.kc_lines.proofs.json.put_bytes.Goals as goal

pub loop-b-preserved : goal.loop-b-preserved
loop-b-preserved g c =
    let i : ℕ = c.loop-b.b-index in
    let x : ℕ = get_or c.args.bytes.now i 0 in
    let is : x ≡ get_or c.args.bytes.now i x = get_or_default c.args.bytes.now i 0 x c.loop-b-test.true in
    record {
      passes = subst (PassesOn (g.O.Sink.taken c.args.out.now) (g.O.Sink.taken c.put_byte.new.out) c.args.page.now c.put_byte.new.page)
          (sym (flat_map-turn json_byte c.args.bytes.now i x c.loop-b-test.true is))
          (PassesOn-trans _ _ _ c.args.page.now c.loop-b.page c.put_byte.new.page (flat_map json_byte (take i c.args.bytes.now)) (json_byte x)
          c.loop-b.invariant.passes c.in_ok-put_byte.ensures.passes);
      faultless = c.in_ok-put_byte.ensures.cause.kept ∙ c.loop-b.invariant.faultless;
    }

pub returns-in_err-put_byte-clause-part : goal.returns-in_err-put_byte-clause-part
returns-in_err-put_byte-clause-part g c =
    let i : ℕ = c.loop-b.b-index in
    let x : ℕ = get_or c.args.bytes.now i 0 in
    let is : x ≡ get_or c.args.bytes.now i x = get_or_default c.args.bytes.now i 0 x c.loop-b-test.true in
    on_err-anyhow c.from_residual.result
    (subst (PassesPart (g.O.Sink.taken c.args.out.now) (g.O.Sink.taken c.put_byte.new.out) c.args.page.now)
    (flat_map-parts json_byte c.args.bytes.now i x c.loop-b-test.true is)
    (PassesPart-later _ _ _ c.args.page.now c.loop-b.page (flat_map json_byte (take i c.args.bytes.now)) _ c.loop-b.invariant.passes
    (PassesPart-wider _ _ c.loop-b.page (json_byte x) (flat_map json_byte (drop (suc i) c.args.bytes.now)) c.in_err-put_byte.ensures.part)))

pub returns-clause-passes : goal.returns-clause-passes
returns-clause-passes g c =
    subst (PassesOn (g.O.Sink.taken c.args.out.now) (g.O.Sink.taken c.loop-b.out) c.args.page.now c.loop-b.page)
    (ap (flat_map json_byte) (take_all c.loop-b.b-index c.args.bytes.now (omega (arith, c.loop-b-test.false))))
    c.loop-b.invariant.passes
