-- Lines that are read one after another.
use Rattle.std.proofs.Common.{◌≡◌, ℕ, true, false, cond, List, [], ◌∷◌, ◌++◌, map, refl, ap, ◌∙◌, Option, None}
use Rattle.std.specs.Prelude.{is_some}
use Rattle.std.proofs.lemmas.List.{map-append}
use Rattle.std.proofs.lemmas.List.Sums.{fold-append}
use Rattle.kc_text.specs.declared.line.TextLine.{TextLine}
use Rattle.kc_text.specs.declared.line.TextLine.TheVariants as said
use Rattle.kc_text.specs.declared.refusal.Refusal.{Refusal}
use Rattle.kc_text.specs.Lines.{EndsLine, lines}
use Rattle.kc_text.proofs.SaidAppend.{lines-append}
use Rattle.kc_stream.specs.Asking.{stream_line, stream_lines}
use Rattle.kc_stream.specs.Ended.{IsOpen}
use Rattle.kc_stream.specs.Hearing.{Heard, hear, hear_all, hear_told, heard_so_far, judged, nothing_heard, passed, refused, taken, told_by}
use Rattle.kc_stream.specs.declared.bad_lines.BadLines.{BadLines}
use Rattle.kc_stream.specs.declared.stream_line.StreamLine.{StreamLine}
use Rattle.kc_stream.proofs.Cuts.{ended-parts}

-- What two parts of a stream say one after the other, where the first ends with a line.
pub stream-append : (xs ys : List ℕ) → EndsLine xs → stream_lines (xs ++ ys) ≡ stream_lines xs ++ stream_lines ys
stream-append xs ys e = ap (map stream_line) (lines-append xs ys e) ∙ map-append stream_line (lines xs) (lines ys)

module _ (bad : BadLines) where
  -- lines, and more behind them
  pub hear-append : (heard : Heard) (xs ys : List StreamLine) → hear_all bad heard (xs ++ ys) ≡ hear_all bad (hear_all bad heard xs) ys
  hear-append heard xs ys = fold-append (hear bad) heard xs ys

  -- what a line comes to that is read: in a batch that is dropped it is passed over, and else it is judged
  abbrev read : Heard → TextLine → Heard
  read heard line = cond (is_some heard.dropped) (passed heard line) (judged bad heard line (refused heard.told line))

  -- behind a line that ends the reading nothing is read
  pub hear-refused : (heard : Heard) (line : StreamLine) → is_some heard.refusal ≡ true → hear bad heard line ≡ heard
  hear-refused heard line is = ap (λ b. cond b heard (read heard (told_by heard.told line))) is

  -- nor are all lines that follow
  pub hear-none : (heard : Heard) (lines : List StreamLine) → is_some heard.refusal ≡ true → hear_all bad heard lines ≡ heard
  hear-none heard [] is = refl
  hear-none heard (line ∷ lines) is = ap (λ (h : Heard). hear_all bad h lines) (hear-refused heard line is) ∙ hear-none heard lines is

  -- where none does, a line is read
  hear-read : (heard : Heard) (line : TextLine) → heard.refusal ≡ None → hear_told bad heard line ≡ read heard line
  hear-read heard line none = ap (λ (r : Option Refusal). cond (is_some r) heard (read heard line)) none

  -- where the batch that is open is not dropped, what the line tells is judged
  pub hear-judged : (heard : Heard) (line : TextLine) → heard.refusal ≡ None → heard.dropped ≡ None
      → hear_told bad heard line ≡ judged bad heard line (refused heard.told line)
  hear-judged heard line none going =
      hear-read heard line none
      ∙ ap (λ (r : Option Refusal). cond (is_some r) (passed heard line) (judged bad heard line (refused heard.told line))) going

  -- and where it is, the line is passed over
  pub hear-passed : (heard : Heard) (line : TextLine) → heard.refusal ≡ None → is_some heard.dropped ≡ true → hear_told bad heard line ≡ passed heard line
  hear-passed heard line none some =
      hear-read heard line none ∙ ap (λ b. cond b (passed heard line) (judged bad heard line (refused heard.told line))) some

  -- a batch line is taken, whether it ends a batch that is dropped or another one
  pub hear-batch : (heard : Heard) → heard.refusal ≡ None → hear_told bad heard said.Batch ≡ taken heard said.Batch
  hear-batch heard none =
      hear-read heard said.Batch none
      ∙ (elim (is_some heard.dropped) as (λ b. cond b (passed heard said.Batch) (judged bad heard said.Batch (refused heard.told said.Batch))
      ≡ taken heard said.Batch) [
        | true ↦ refl
        | false ↦ refl
      ])

  -- What bytes come to is what their ended lines come to.
  pub so-far : (done rest : List ℕ) → EndsLine done → IsOpen rest → heard_so_far bad (done ++ rest) ≡ hear_all bad nothing_heard (stream_lines done)
  so-far done rest e o = ap (λ (t : List ℕ). hear_all bad nothing_heard (stream_lines t)) (ended-parts done rest e o)

  -- What bytes come to with more that end a line.
  pub more-ended : (done more : List ℕ) → EndsLine done
      → hear_all bad nothing_heard (stream_lines (done ++ more)) ≡ hear_all bad (hear_all bad nothing_heard (stream_lines done)) (stream_lines more)
  more-ended done more e = ap (hear_all bad nothing_heard) (stream-append done more e)
      ∙ hear-append nothing_heard (stream_lines done) (stream_lines more)
