-- The whole lines of the piece were read, and the rest is kept.
use Rattle.std.proofs.Common.{◌≡◌, ◌≤◌, ◌<◌, ◌+◌, ◌++◌, [], ℕ, List, Err, Vec, Global, false, drop, length, ap, ap₂, sym, subst, ◌∙◌, arith, append-nil}
use Rattle.std.specs.List.{All}
use Rattle.std.proofs.lemmas.Bool.{eqb-false, eqb-true}
use Rattle.std.proofs.lemmas.List.{length-take, take-append-drop}
use Rattle.std.proofs.lemmas.Result.{err_from_is_err_and}
use Rattle.kc_text.specs.Lines.{EndsLine, is_newline, lines}
use Rattle.kc_dialect.specs.declared.fault.RewriteFault.{RewriteFault}
use Rattle.kc_dialect.specs.declared.fault.RewriteFault.TheVariants.{Bad}
use Rattle.kc_dialect.specs.declared.rewriter.Rewriter.{Rewriter}
use Rattle.kc_dialect.specs.Dialects.{plain_lines}
use Rattle.kc_dialect.specs.Steps.{TookLines}
use Rattle.kc_dialect.proofs.Fed.{fed-more, fed-open, first-bad}
use Rattle.kc_dialect.proofs.rewriter.Rewriter.feed.Goals as goal
use Rattle.kc_dialect.proofs.rewriter.Rewriter.feed.Goals.{then-not-is_empty+in_ok-take_whole, else-not-is_empty}

pub overflow_sub-self : goal.overflow_sub-self
overflow_sub-self c = let f = c.requires.2 in omega (arith, f.bytes, f.most)

pub returns-in_err-take_whole-clause-bad : goal.returns-in_err-take_whole-clause-bad
returns-in_err-take_whole-clause-bad c = λ bad fed written rest e f.
    let p = err_from_is_err_and c.from_residual.result c.from_residual.ensures.1 in
    let same : c.in_err-take_whole.field-0.0 ≡ Bad bad = cc (p.1, p.2, e) in
    let piece : List ℕ = c.args.piece.now in
    let whole : List ℕ = c.split_at.result.0.now in
    let parts : whole ++ c.split_at.result.1.now ≡ piece = ap₂ (λ (x y : List ℕ). x ++ y) c.split_at.ensures.front c.split_at.ensures.back
    ∙ take-append-drop c.whole_len.result piece in
    let none = eqb-false (length whole) 0 (sym c.if-not-is_empty.ensures) in
    first-bad c.args.self.now fed written piece whole c.split_at.result.1.now rest bad parts
    (subst EndsLine (sym c.split_at.ensures.front) c.whole_len.ensures.ended) (omega arith)
    (c.in_err-take_whole.ensures.stopped bad (ap (λ (f : RewriteFault). Err f) same)) f

pub returns-clause-fed : goal.returns-clause-fed
returns-clause-fed c =
    let self : Rewriter = c.args.self.now in
    let piece : List ℕ = c.args.piece.now in
    let whole : List ℕ = c.split_at.result.0.now in
    let rest : List ℕ = c.split_at.result.1.now in
    let before : List ℕ = c.args.out.now.items in
    let mid : Rewriter = c.if-not-is_empty.self in
    let parts : whole ++ rest ≡ piece = ap₂ (λ (x y : List ℕ). x ++ y) c.split_at.ensures.front c.split_at.ensures.back
    ∙ take-append-drop c.whole_len.result piece in
    let open' : All (λ b. is_newline b ≡ false) rest =
    subst (All (λ b. is_newline b ≡ false)) (sym c.split_at.ensures.back) c.whole_len.ensures.open in
    let most : self.bytes + length piece ≤ 9223372036854775807 =
    let f = c.requires.2 in omega (arith, f.bytes, f.most, c.if-piece-self.false) in
    let kept : c.extend_from_slice.new.self.items ≡ mid.carry.items ++ rest = c.in_ok-extend_from_slice.ensures.items in
    elim c.if-not-is_empty.branch [
      | then-not-is_empty+in_ok-take_whole w ↦
          let took = w.in_ok-take_whole.ensures in
          let ls : List (List ℕ) = lines (self.carry.items ++ whole) in
          let after : List ℕ = w.take_whole.new.out.items in
          let none = eqb-false (length whole) 0 (sym w.if-not-is_empty.ensures) in
          let some : 0 < length whole = omega arith in (
            plain_lines self.lines.dialect self.lines.lines ls,
            ap (λ (v : Vec ℕ Global). v.items) w.out-is ∙ took.read.text,
            λ fed written f. fed-more self _ fed written piece whole rest before after parts
                (subst EndsLine (sym c.split_at.ensures.front) c.whole_len.ensures.ended) some open'
                (subst (λ (r : Rewriter). TookLines self.lines r.lines before after ls) (sym w.self-is) took.read)
                (subst (λ (r : Rewriter). r.lines.lines ≤ self.lines.lines + length self.carry.items + length whole) (sym w.self-is) took.few)
                (kept ∙ ap (λ (r : Rewriter). r.carry.items ++ rest) w.self-is ∙ ap (λ (t : List ℕ). t ++ rest) took.carry)
                (ap (λ (r : Rewriter). r.bytes + length piece) w.self-is ∙ ap (λ n. n + length piece) took.bytes) most f,
          )
      | else-not-is_empty w ↦
          let none : length whole ≡ 0 = eqb-true (length whole) 0 (sym w.if-not-is_empty.ensures) in
          let zero' : c.whole_len.result ≡ 0 =
          omega (arith, ap length c.split_at.ensures.front, length-take c.whole_len.result piece, c.whole_len.ensures.within) in
          let same : rest ≡ piece = c.split_at.ensures.back ∙ ap (λ n. drop n piece) zero' in (
            [],
            ap (λ (v : Vec ℕ Global). v.items) w.out-is ∙ sym (append-nil before),
            λ fed written f. fed-open self _ fed written piece (subst (All (λ b. is_newline b ≡ false)) same open') (ap (λ (r : Rewriter). r.lines) w.self-is)
                (kept ∙ ap (λ (r : Rewriter). r.carry.items ++ rest) w.self-is ∙ ap (λ (t : List ℕ). self.carry.items ++ t) same)
                (ap (λ (r : Rewriter). r.bytes + length piece) w.self-is) most f,
          )
    ]
