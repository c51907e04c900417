-- One more piece has its numbers at their vertices.
use Rattle.std.proofs.Common.{◌≡◌, ◌∙◌, ℕ, List, length, ap, arith, inl, inr, subst, sym}
use Rattle.kc_graph.specs.Rows.{row}
use Rattle.kc_hindex.specs.Crossing.{Taken}
use Rattle.kc_hindex.specs.Pieces.{numbers_of}
use Rattle.kc_hindex.proofs.Dealing.{row-at}
use Rattle.kc_hindex.proofs.TakingOver.{all-same, all-taken-more}
use Rattle.kc_hindex.proofs.crossing.take_over.Goals.{then-take_piece, else-take_piece}
use Rattle.kc_hindex.proofs.crossing.take_over.Goals as goal

pub take_piece-requires-clause-within : goal.take_piece-requires-clause-within
take_piece-requires-clause-within c = λ i m.
    let is : row (numbers_of c.args.pieces.now) c.loop-p.p ≡ c.deref.result.now =
    row-at c.args.pieces.now c.loop-p.p c.index-pieces-p.result c.loop-p-test.true ∙ sym c.deref.ensures.value in
    omega (arith, c.loop-p.invariant.len, c.requires.dealt.within c.loop-p.p i c.loop-p-test.true (omega (arith, m, ap (λ (xs : List ℕ). length xs) is)))

pub loop-p-preserved : goal.loop-p-preserved
loop-p-preserved c =
    let is : row (numbers_of c.args.pieces.now) c.loop-p.p ≡ c.deref.result.now =
    row-at c.args.pieces.now c.loop-p.p c.index-pieces-p.result c.loop-p-test.true ∙ sym c.deref.ensures.value in
    all-taken-more c.args.pieces.now c.loop-p.p c.args.numbers.now c.args.crossed.now c.loop-p.numbers c.loop-p.crossed c.loop-p.changed
    c.take_piece.new.numbers c.take_piece.new.crossed c.take_piece.result c.if-take_piece.changed c.loop-p-test.true c.loop-p.invariant
    (subst (λ (xs : List ℕ). Taken c.loop-p.p (length c.args.pieces.now) xs (length xs) c.loop-p.numbers c.loop-p.crossed c.take_piece.new.numbers
    c.take_piece.new.crossed c.take_piece.result) (sym is) c.take_piece.ensures)
    (elim c.if-take_piece.branch [
      | then-take_piece w ↦ inl (w.if-take_piece.true, w.changed-is)
      | else-take_piece w ↦ inr (w.if-take_piece.false, w.changed-is)
    ])

pub returns-clause-changed : goal.returns-clause-changed
returns-clause-changed c =
    all-same c.args.pieces.now c.loop-p.p (length c.args.crossed.now) c.args.numbers.now c.args.crossed.now c.loop-p.numbers c.loop-p.crossed c.loop-p.changed
    (omega (arith, c.loop-p.auto.p-end, c.loop-p-test.false)) c.requires.dealt c.loop-p.invariant
