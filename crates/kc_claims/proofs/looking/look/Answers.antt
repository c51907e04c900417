-- The next line is wrong, or the look goes on behind it.
use Rattle.std.proofs.Common.{◌≡◌, ◌+◌, ◌++◌, ◌∷◌, ◌∙◌, [], List, ap, append-nil, append_assoc, arith, is_none, length, refl, subst, sym}
use Rattle.kc_graph.specs.declared.bulk.Edge.{Edge}
use Rattle.kc_text.specs.Forms.{all_said}
use Rattle.kc_claims.specs.LineFaults.{first_line_fault, last_pair}
use Rattle.kc_claims.specs.Sweeping.{AreToldBy}
use Rattle.kc_text.specs.declared.line.TextLine.{TextLine}
use Rattle.kc_claims.proofs.Counted.{AreToldBy-append}
use Rattle.kc_claims.proofs.LineFaulting.{clean-next, wrong-next}
use Rattle.kc_claims.proofs.looking.look.Goals as goal

pub loop-line-init : goal.loop-line-init
loop-line-init c = record {
  first = λ done. ap (λ n. first_line_fault c.args.ids.now n c.args.before (all_said c.args.lines.now)) (let e : done ≡ done + 0 = omega arith in e);
  pairs = refl;
  counted = omega arith;
  short = omega arith;
  told = ([], [], refl, refl, sym (append-nil c.args.edges.now.items));
}

pub loop-line-preserved : goal.loop-line-preserved
loop-line-preserved c = record {
  first = λ done.
      c.loop-line.invariant.first done
      ∙ clean-next c.args.ids.now (done + c.loop-line.seen) (done + (c.loop-line.seen + 1)) c.loop-line.last c.in-Some.line _ _ c.in-Some.ensures.lines
      (sym c.in_default-wrong.is ∙ c.in_ok-wrong.ensures.fault)
      (let e : (done + c.loop-line.seen) + 1 ≡ done + (c.loop-line.seen + 1) = omega arith in e)
      ∙ ap (λ last. first_line_fault c.args.ids.now (done + (c.loop-line.seen + 1)) last (all_said c.in-Some.more.now)) (sym c.pair_after-last.ensures);
  pairs =
      c.loop-line.invariant.pairs ∙ ap (last_pair c.loop-line.last) c.in-Some.ensures.lines
      ∙ ap (λ last. last_pair last (all_said c.in-Some.more.now)) (sym c.pair_after-last.ensures);
  counted = omega (arith, c.loop-line.invariant.counted, ap length c.in-Some.ensures.lines);
  short = omega (arith, c.loop-line.invariant.short, c.in-Some.ensures.shorter);
  told =
      let (done, told, is, by, same) = c.loop-line.invariant.told in
      let (more, by', same') = c.in_ok-wrong.ensures.told (ap is_none c.in_default-wrong.is) in (
        done ++ c.in-Some.line ∷ [],
        told ++ more,
        is ∙ ap (λ (t : List TextLine). done ++ t) c.in-Some.ensures.lines
            ∙ sym (append_assoc done (c.in-Some.line ∷ []) (all_said c.in-Some.more.now)),
        AreToldBy-append c.args.ids.now done (c.in-Some.line ∷ []) told more by by',
        same' ∙ ap (λ (t : List Edge). t ++ more) same ∙ append_assoc c.args.edges.now.items told more,
      );
}

pub returns-in-Some-wrong-clause-first : goal.returns-in-Some-wrong-clause-first
returns-in-Some-wrong-clause-first c = λ done.
    c.loop-line.invariant.first done
    ∙ wrong-next c.args.ids.now (done + c.loop-line.seen) (done + (c.loop-line.seen + 1)) c.loop-line.last c.in-Some.line _ _ c.in-Some-wrong.fault
    c.in-Some.ensures.lines (sym c.in-Some-wrong.is ∙ c.in_ok-wrong.ensures.fault)
    (let e : (done + c.loop-line.seen) + 1 ≡ done + (c.loop-line.seen + 1) = omega arith in e)

pub returns-clause-told : goal.returns-clause-told
returns-clause-told c = λ _.
    let (done, told, is, by, same) = c.loop-line.invariant.told in (
      told,
      subst (λ (t : List TextLine). AreToldBy c.args.ids.now t told)
          (sym (is ∙ ap (λ (t : List TextLine). done ++ t) c.in_default.ensures.lines ∙ append-nil done)) by,
      same,
    )
