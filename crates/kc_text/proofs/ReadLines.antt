-- What was read of lines, one after another.
use Rattle.std.proofs.Common.{◌≡◌, ◌≢◌, ◌+◌, ℕ, List, [], ◌∷◌, ◌++◌, refl, sym, ap, subst, ◌∙◌, append_assoc, append-nil, Option, Some, None}
use Rattle.std.specs.List.{filter}
use Rattle.std.proofs.lemmas.List.Elements.{filter-append}
use Rattle.kc_text.specs.declared.kind.Kind.{Kind}
use Rattle.kc_text.specs.declared.limits.Limits.{Limits}
use Rattle.kc_text.specs.declared.line.TextLine.{TextLine}
use Rattle.kc_text.specs.declared.reading.LineReader.{LineReader}
use Rattle.kc_text.specs.declared.refusal.Refusal.{Refusal}
use Rattle.kc_text.specs.Meaning.{Told, ends_or, nothing_told, reading, refusal, with_line}
use Rattle.kc_text.specs.Numbering.{HasNumbers}
use Rattle.kc_text.specs.Readers.{IsExact, IsTold, outcome, told_by, told_lines}
use Rattle.kc_text.specs.Readings.{HasRead, Reads, goes_on, refusal_at}
use Rattle.kc_text.specs.TellingLines.{is_telling}

-- what lines mean with one more behind them, by whether it is refused
meaning-on : (limits : Limits) (done : ℕ) (told told' : Told) (line : TextLine) (cause : Option Kind) (rest : List TextLine)
    → cause ≡ refusal limits told line → (cause ≡ None → told' ≡ with_line told line)
    → reading limits done told (line ∷ rest) ≡ goes_on limits (refusal_at cause (done + 1)) (done + 1) told' rest
meaning-on limits done told told' line None rest is taken =
    ap (λ r. ends_or r (done + 1) (reading limits (done + 1) (with_line told line) rest)) (sym is)
    ∙ ap (λ (t : Told). reading limits (done + 1) t rest) (sym (taken refl))
meaning-on limits done told told' line (Some kind) rest is taken =
    ap (λ r. ends_or r (done + 1) (reading limits (done + 1) (with_line told line) rest)) (sym is)

-- a line is no cause where the refusal is none
no-cause : (cause : Option Kind) (line : ℕ) → refusal_at cause line ≡ None → cause ≡ None
no-cause None line e = refl
no-cause (Some kind) line e = absurd (cc)

-- one line more was read
pub line-read : (limits : Limits) (old new : LineReader) (lines : List TextLine) (line : TextLine) (cause : Option Kind) → old.refusal ≡ None
    → new.refusal ≡ refusal_at cause new.numbers.lines → new.numbers.lines ≡ old.numbers.lines + 1
    → (IsExact limits new.reader → IsExact limits old.reader) → (IsExact limits new.reader → cause ≡ refusal limits (told_by old.reader) line)
    → (cause ≡ None → told_by new.reader ≡ with_line (told_by old.reader) line) → IsTold cause (told_by old.reader) line (told_by new.reader)
    → (HasNumbers old.numbers lines → HasNumbers new.numbers (lines ++ line ∷ [])) → HasRead limits old lines → HasRead limits new (lines ++ line ∷ [])
line-read limits old new lines line cause going at count before is taken tells numbered read = record {
  exact = λ exact rest.
      ap (reading limits 0 nothing_told) (append_assoc lines (line ∷ []) rest)
      ∙ (read.exact (before exact) (line ∷ rest)
      ∙ (ap (λ (r : Option Refusal). goes_on limits r old.numbers.lines (told_by old.reader) (line ∷ rest)) going
      ∙ (meaning-on limits old.numbers.lines (told_by old.reader) (told_by new.reader) line cause rest (is exact) taken
      ∙ (ap (λ (n : ℕ). goes_on limits (refusal_at cause n) n (told_by new.reader) rest) (sym count)
      ∙ ap (λ (r : Option Refusal). goes_on limits r new.numbers.lines (told_by new.reader) rest) (sym at)))));
  numbers = numbered read.numbers;
  more = tells.more;
  told = filter-append is_telling lines (line ∷ [])
      ∙ (ap (λ (t : List TextLine). t ++ filter is_telling (line ∷ [])) (read.told ∙ ap (λ (t : List TextLine). told_lines (told_by old.reader) ++ t)
      (read.whole going) ∙ append-nil (told_lines (told_by old.reader))) ∙ tells.told);
  whole = λ none. tells.whole (no-cause cause new.numbers.lines (sym at ∙ none));
}

-- where all lines were read, and one more is
pub reads-line : (limits : Limits) (old new : LineReader) (before : List TextLine) (line : TextLine) → old.refusal ≡ None
    → ((lines : List TextLine) → HasRead limits old lines → HasRead limits new (lines ++ line ∷ [])) → Reads limits old before
    → Reads limits new (before ++ line ∷ [])
reads-line limits old new before line going more r =
    let all : before ≡ r.front = r.parts ∙ ap (λ (t : List TextLine). r.front ++ t) (r.all going) ∙ append-nil r.front in
    record {
      front = before ++ line ∷ [];
      behind = [];
      parts = sym (append-nil (before ++ line ∷ []));
      all = λ _. refl;
      read = more before (subst (HasRead limits old) (sym all) r.read);
    }

-- behind a line that is refused all lines are passed over
pub reads-more : (limits : Limits) (reader : LineReader) (before more : List TextLine) → reader.refusal ≢ None → Reads limits reader before
    → Reads limits reader (before ++ more)
reads-more limits reader before more refused r = record {
  front = r.front;
  behind = r.behind ++ more;
  parts = ap (λ (t : List TextLine). t ++ more) r.parts ∙ append_assoc r.front r.behind more;
  all = λ none. absurd (refused none);
  read = r.read;
}

-- lines that were read one part after another
pub reads-then : (limits : Limits) (first second third : LineReader) (xs ys zs : List TextLine) → xs ++ ys ≡ zs
    → ((before : List TextLine) → Reads limits first before → Reads limits second (before ++ xs))
    → ((before : List TextLine) → Reads limits second before → Reads limits third (before ++ ys))
    → (before : List TextLine) → Reads limits first before → Reads limits third (before ++ zs)
reads-then limits first second third xs ys zs e one two before r =
    subst (Reads limits third) (append_assoc before xs ys ∙ ap (λ (t : List TextLine). before ++ t) e) (two (before ++ xs) (one before r))

-- what lines mean that were read, if the count of ids is exact
pub read-outcome : (limits : Limits) (reader : LineReader) (lines : List TextLine) → Reads limits reader lines → IsExact limits reader.reader
    → reading limits 0 nothing_told lines ≡ outcome (told_by reader.reader) reader.refusal
read-outcome limits reader lines r exact =
    ap (reading limits 0 nothing_told) r.parts ∙ (r.read.exact exact r.behind ∙ ends reader.refusal r.all)
  where
    ends : (refusal : Option Refusal) → (refusal ≡ None → r.behind ≡ [])
        → goes_on limits refusal reader.numbers.lines (told_by reader.reader) r.behind ≡ outcome (told_by reader.reader) refusal
    ends None all = ap (reading limits reader.numbers.lines (told_by reader.reader)) (all refl)
    ends (Some refusal) all = refl
