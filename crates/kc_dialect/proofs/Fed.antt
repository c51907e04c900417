-- What a rewriter was fed, one piece after another.
use Rattle.std.proofs.Common.{◌≡◌, ◌≤◌, ◌<◌, ◌+◌, ℕ, List, [], ◌++◌, false, length, refl, sym, ap, subst, ◌∙◌, arith, inl}
use Rattle.std.proofs.Common.{append_assoc, append-nil, length-append}
use Rattle.std.specs.List.{All}
use Rattle.std.proofs.lemmas.List.Elements.{All-append, All-nil, All-same}
use Rattle.kc_text.specs.Lines.{EndsLine, is_newline, lines}
use Rattle.kc_text.proofs.SaidAppend.{ends-append, ends-behind, lines-append}
use Rattle.kc_dialect.specs.declared.bad_line.BadLine.{BadLine}
use Rattle.kc_dialect.specs.declared.dialect.Dialect.{Dialect}
use Rattle.kc_dialect.specs.declared.dialect.BadLines.TheVariants.{Stop}
use Rattle.kc_dialect.specs.declared.line_rewriter.LineRewriter.{LineRewriter}
use Rattle.kc_dialect.specs.declared.rewriter.Rewriter.{Rewriter}
use Rattle.kc_dialect.specs.declared.rewriter.TheConstants.{MOST_BYTES}
use Rattle.kc_dialect.specs.Dialects.{bad_lines, bad_lines_after, plain_lines, plain_text}
use Rattle.kc_dialect.specs.Rewritten.{HasFirstBad, HasRewritten}
use Rattle.kc_dialect.specs.Skipped.{AreSkipped}
use Rattle.kc_dialect.specs.Steps.{TookLines, StopsAt}
use Rattle.kc_dialect.proofs.LineAppend.{bad-append, plain-append}
use Rattle.kc_dialect.proofs.Read.{stops-behind}

-- a rewriter that was fed nothing
pub fed-nothing : (r : Rewriter) → r.carry.items ≡ [] → r.lines.lines ≡ 0 → AreSkipped r.lines.skipped [] → r.lines.skipped.count ≡ 0 → r.bytes ≡ 0
    → HasRewritten r [] []
fed-nothing r carry none skipped count bytes = record {
  done = [];
  cut = sym carry;
  ended = inl refl;
  open' = All-same (λ b. is_newline b ≡ false) r.carry.items [] carry (All-nil (λ b. is_newline b ≡ false));
  text = refl;
  lines = none;
  few = omega arith;
  skipped = skipped;
  fewer = omega arith;
  unbroken = λ _. refl;
  bytes = bytes;
  most = omega arith;
}

-- the plain text of bytes that end with a line, and of others behind them
pub text-behind : (d : Dialect) (n : ℕ) (done more : List ℕ) → EndsLine done → n ≡ length (lines done)
    → plain_text d (done ++ more) ≡ plain_text d done ++ plain_lines d n (lines more)
text-behind d n done more ended e =
    ap (plain_lines d 0) (lines-append done more ended) ∙ plain-append d 0 (lines done) (lines more)
    ∙ ap (λ k. plain_text d done ++ plain_lines d k (lines more)) (let h : 0 + length (lines done) ≡ n = omega (arith, e) in h)

-- the bad lines of bytes that end with a line, and of others behind them
pub bad-behind : (d : Dialect) (n : ℕ) (done more : List ℕ) → EndsLine done → n ≡ length (lines done)
    → bad_lines d (done ++ more) ≡ bad_lines d done ++ bad_lines_after d n (lines more)
bad-behind d n done more ended e =
    ap (bad_lines_after d 0) (lines-append done more ended) ∙ bad-append d 0 (lines done) (lines more)
    ∙ ap (λ k. bad_lines d done ++ bad_lines_after d k (lines more)) (let h : 0 + length (lines done) ≡ n = omega (arith, e) in h)

-- Lines were read that end in bytes behind those that were kept, and the rest is kept.
pub fed-more : (old new : Rewriter) (fed written piece whole rest x y : List ℕ) → whole ++ rest ≡ piece → EndsLine whole → 0 < length whole
    → All (λ b. is_newline b ≡ false) rest → TookLines old.lines new.lines x y (lines (old.carry.items ++ whole))
    → new.lines.lines ≤ old.lines.lines + length old.carry.items + length whole → new.carry.items ≡ rest → new.bytes ≡ old.bytes + length piece
    → old.bytes + length piece ≤ MOST_BYTES → HasRewritten old fed written
    → HasRewritten new (fed ++ piece) (written ++ plain_lines old.lines.dialect old.lines.lines (lines (old.carry.items ++ whole)))
fed-more old new fed written piece whole rest x y parts ended some open' read few carry bytes most f =
    let d : Dialect = old.lines.dialect in
    let n : ℕ = old.lines.lines in
    let more : List ℕ = old.carry.items ++ whole in
    let done : List ℕ = f.done ++ more in
    let all : lines done ≡ lines f.done ++ lines more = lines-append f.done more f.ended in
    let bad : bad_lines d done ≡ bad_lines d f.done ++ bad_lines_after d n (lines more) = bad-behind d n f.done more f.ended f.lines in
    record {
      done = done;
      cut = ap (λ (t : List ℕ). t ++ piece) f.cut ∙ append_assoc f.done old.carry.items piece
          ∙ ap (λ (t : List ℕ). f.done ++ (old.carry.items ++ t)) (sym parts)
          ∙ ap (λ (t : List ℕ). f.done ++ t) (sym (append_assoc old.carry.items whole rest))
          ∙ sym (append_assoc f.done more rest) ∙ ap (λ (t : List ℕ). done ++ t) (sym carry);
      ended = ends-append f.done more f.ended (ends-behind old.carry.items whole ended some);
      open' = All-same (λ b. is_newline b ≡ false) new.carry.items rest carry open';
      text = ap (λ (t : List ℕ). t ++ plain_lines d n (lines more)) f.text ∙ sym (text-behind d n f.done more f.ended f.lines)
          ∙ ap (λ (t : Dialect). plain_text t done) (sym read.dialect);
      lines = omega (arith, read.lines, f.lines, ap length all, length-append (lines f.done) (lines more));
      few = omega (arith, few, f.few, length-append f.done more, length-append old.carry.items whole);
      skipped = subst (λ (t : Dialect). AreSkipped new.lines.skipped (bad_lines t done)) (sym read.dialect)
          (subst (AreSkipped new.lines.skipped) (sym bad) (read.skipped (bad_lines d f.done) f.skipped));
      fewer = read.fewer f.fewer;
      unbroken = subst (λ (t : Dialect). t.bad_lines ≡ Stop → bad_lines t done ≡ []) (sym read.dialect)
          (λ stop. bad ∙ ap (λ (t : List BadLine). t ++ bad_lines_after d n (lines more)) (f.unbroken stop) ∙ read.unbroken stop);
      bytes = omega (arith, bytes, f.bytes, length-append fed piece);
      most = omega (arith, most, f.bytes, length-append fed piece);
    }

-- no line ends in a piece, and it is kept
pub fed-open : (old new : Rewriter) (fed written piece : List ℕ) → All (λ b. is_newline b ≡ false) piece → new.lines ≡ old.lines
    → new.carry.items ≡ old.carry.items ++ piece → new.bytes ≡ old.bytes + length piece → old.bytes + length piece ≤ MOST_BYTES
    → HasRewritten old fed written → HasRewritten new (fed ++ piece) (written ++ [])
fed-open old new fed written piece open' same carry bytes most f = record {
  done = f.done;
  cut = ap (λ (t : List ℕ). t ++ piece) f.cut ∙ append_assoc f.done old.carry.items piece ∙ ap (λ (t : List ℕ). f.done ++ t) (sym carry);
  ended = f.ended;
  open' = All-same (λ b. is_newline b ≡ false) new.carry.items (old.carry.items ++ piece) carry
      (All-append (λ b. is_newline b ≡ false) old.carry.items piece f.open' open');
  text = append-nil written ∙ f.text ∙ ap (λ (t : LineRewriter). plain_text t.dialect f.done) (sym same);
  lines = ap (λ (t : LineRewriter). t.lines) same ∙ f.lines;
  few = subst (λ (t : LineRewriter). t.lines ≤ length f.done) (sym same) f.few;
  skipped = subst (λ (t : LineRewriter). AreSkipped t.skipped (bad_lines t.dialect f.done)) (sym same) f.skipped;
  fewer = subst (λ (t : LineRewriter). t.skipped.count ≤ t.lines) (sym same) f.fewer;
  unbroken = subst (λ (t : LineRewriter). t.dialect.bad_lines ≡ Stop → bad_lines t.dialect f.done ≡ []) (sym same) f.unbroken;
  bytes = omega (arith, bytes, f.bytes, length-append fed piece);
  most = omega (arith, most, f.bytes, length-append fed piece);
}

-- the first bad line among the lines behind those that were kept is the first of the text, whatever follows
pub first-bad : (r : Rewriter) (fed written piece whole rest after : List ℕ) (bad : BadLine) → whole ++ rest ≡ piece → EndsLine whole → 0 < length whole
    → StopsAt r.lines.dialect r.lines.lines (lines (r.carry.items ++ whole)) bad → HasRewritten r fed written
    → HasFirstBad r.lines.dialect ((fed ++ piece) ++ after) bad
first-bad r fed written piece whole rest after bad parts ended some stops f =
    let more : List ℕ = r.carry.items ++ whole in
    let behind : List ℕ = rest ++ after in
    let ends : EndsLine more = ends-behind r.carry.items whole ended some in
    let bytes : (fed ++ piece) ++ after ≡ f.done ++ (more ++ behind) =
    ap (λ (t : List ℕ). (t ++ piece) ++ after) f.cut
    ∙ ap (λ (t : List ℕ). t ++ after) (append_assoc f.done r.carry.items piece)
    ∙ append_assoc f.done (r.carry.items ++ piece) after
    ∙ ap (λ (t : List ℕ). f.done ++ t) (ap (λ (t : List ℕ). (r.carry.items ++ t) ++ after) (sym parts)
    ∙ ap (λ (t : List ℕ). t ++ after) (sym (append_assoc r.carry.items whole rest)) ∙ append_assoc more rest after) in
    let all : lines ((fed ++ piece) ++ after) ≡ lines f.done ++ (lines more ++ lines behind) =
    ap lines bytes ∙ lines-append f.done (more ++ behind) f.ended ∙ ap (λ (t : List (List ℕ)). lines f.done ++ t) (lines-append more behind ends) in
    subst (λ (t : List (List ℕ)). StopsAt r.lines.dialect 0 t bad) (sym all)
    (stops-behind r.lines.dialect 0 r.lines.lines (lines f.done) (lines more) (lines behind) bad f.unbroken (omega (arith, f.lines)) stops)

-- the text is written when the last line is
pub all-written : (r : Rewriter) (fed written : List ℕ) → HasRewritten r fed written
    → written ++ plain_lines r.lines.dialect r.lines.lines (lines r.carry.items) ≡ plain_text r.lines.dialect fed
all-written r fed written f =
    ap (λ (t : List ℕ). t ++ plain_lines r.lines.dialect r.lines.lines (lines r.carry.items)) f.text
    ∙ sym (text-behind r.lines.dialect r.lines.lines f.done r.carry.items f.ended f.lines) ∙ ap (plain_text r.lines.dialect) (sym f.cut)

-- the bad lines of a text are those of its lines and of the last
pub all-bad : (r : Rewriter) (fed written : List ℕ) → HasRewritten r fed written
    → ((done : List ℕ) × (AreSkipped r.lines.skipped (bad_lines r.lines.dialect done))
    × (r.lines.dialect.bad_lines ≡ Stop → bad_lines r.lines.dialect done ≡ [])
    × (bad_lines r.lines.dialect fed ≡ bad_lines r.lines.dialect done ++ bad_lines_after r.lines.dialect r.lines.lines (lines r.carry.items)))
all-bad r fed written f = (
  f.done,
  f.skipped,
  f.unbroken,
  ap (bad_lines r.lines.dialect) f.cut ∙ bad-behind r.lines.dialect r.lines.lines f.done r.carry.items f.ended f.lines,
)

-- the first bad line of a text that ends in the bytes that were kept
pub last-bad : (r : Rewriter) (fed written : List ℕ) (bad : BadLine) → StopsAt r.lines.dialect r.lines.lines (lines r.carry.items) bad
    → HasRewritten r fed written
    → HasFirstBad r.lines.dialect fed bad
last-bad r fed written bad stops f =
    let all : lines fed ≡ lines f.done ++ (lines r.carry.items ++ []) =
    ap lines f.cut ∙ lines-append f.done r.carry.items f.ended ∙ ap (λ (t : List (List ℕ)). lines f.done ++ t) (sym (append-nil (lines r.carry.items))) in
    subst (λ (t : List (List ℕ)). StopsAt r.lines.dialect 0 t bad) (sym all)
    (stops-behind r.lines.dialect 0 r.lines.lines (lines f.done) (lines r.carry.items) [] bad f.unbroken (omega (arith, f.lines)) stops)
