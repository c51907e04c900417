-- The next line is read behind the others, and behind one that is refused the rest is passed over.
use Rattle.std.proofs.Common.{◌≢◌, ◌++◌, ◌∷◌, [], ap, sym, subst, refl, ◌∙◌, append_assoc, arith, None}
use Rattle.kc_text.specs.Forms.{all_said}
use Rattle.kc_text.specs.Readings.{Reads}
use Rattle.kc_text.proofs.ReadLines.{reads-more, reads-then}
use Rattle.kc_text.proofs.reading.LineReader.read.Goals as goal

pub loop-rest-preserved : goal.loop-rest-preserved
loop-rest-preserved c =
    let (done, is, reads) = c.loop-rest.invariant.parts in
    record {
      parts = (
        done ++ c.in-Some.line ∷ [],
        is ∙ (ap (λ t. done ++ t) c.in-Some.ensures.lines ∙ sym (append_assoc done (c.in-Some.line ∷ []) (all_said c.in-Some.more.now))),
        reads-then c.args.limits.now c.args.self.now c.loop-rest.self c.take.new.self done (c.in-Some.line ∷ []) (done ++ c.in-Some.line ∷ []) refl reads
            c.in_ok-take.ensures.reads,
      );
      can = c.in_ok-take.ensures.can;
      lines = omega (arith, c.loop-rest.invariant.lines, c.in_ok-take.ensures.lines, c.in-Some.ensures.shorter);
    }

pub returns-clause-reads : goal.returns-clause-reads
returns-clause-reads c = λ before r.
    let (done, is, reads) = c.loop-rest.invariant.parts in
    let refused : c.loop-rest.self.refusal ≢ None = λ none. absurd (grind arith) in
    subst (Reads c.args.limits.now c.loop-rest.self) (append_assoc before done (all_said c.loop-rest.rest.now) ∙ ap (λ t. before ++ t) (sym is))
    (reads-more c.args.limits.now c.loop-rest.self (before ++ done) (all_said c.loop-rest.rest.now) refused (reads before r))
