-- What becomes of bad lines, and where it is no matter; and that the format is no matter for what is told.
use Rattle.std.proofs.Common.{◌≡◌, ℕ, List, [], ◌∷◌, ◌++◌, refl, sym, ap, ap₂, ◌∙◌, cond, subst, inl, inr, Option, Some, None}
use Rattle.std.specs.Prelude.{is_some}
use Rattle.std.proofs.lemmas.Bool.{cases_Bool}
use Rattle.kc_lists.proofs.Results.{none-from}
use Rattle.kc_text.specs.declared.change.ChangeLine.{ChangeLine}
use Rattle.kc_text.specs.declared.kind.Kind.{Kind}
use Rattle.kc_text.specs.declared.line.TextLine.{TextLine}
use Rattle.kc_text.specs.declared.line.TextLine.TheVariants as said
use Rattle.kc_text.specs.declared.refusal.Refusal.{Refusal}
use Rattle.kc_text.specs.Meaning.{Told}
use Rattle.kc_changes.specs.declared.show.Show.{Show}
use Rattle.kc_stream.specs.declared.bad_lines.BadLines.{BadLines}
use Rattle.kc_stream.specs.declared.bad_lines.BadLines.TheVariants as on_bad
use Rattle.kc_stream.specs.declared.stream_line.StreamLine.{StreamLine}
use Rattle.kc_stream.specs.declared.stream_line.StreamLine.TheVariants.{Tells, Asks}
use Rattle.kc_stream.specs.Hearing.{Heard, hear, hear_all, heard_at_end, judged, nothing_heard, refused, told_by}
use Rattle.kc_stream.proofs.Reading.{hear-judged, hear-none, hear-refused}
use Rattle.kc_stream.specs.Asking.{stream_lines}
use Rattle.kc_text.specs.Inputs.{EdgeBatch}
use Rattle.kc_changes.specs.Changed.{facts_behind}
use Rattle.kc_reply.specs.Facts.{Fact}
use Rattle.kc_reply.specs.Facts as fact
use Rattle.kc_reply.specs.declared.reply_format.ReplyFormat.{ReplyFormat}
use Rattle.kc_watch.specs.Accounts.{Account, account_of, batch_behind, core_number_in, with_batch}
use Rattle.kc_watch.specs.Text.{answer_facts, answers_facts, end_facts, ending_facts, facts_at_end, line_about, line_facts, open_facts, part_facts}
use Rattle.kc_watch.specs.Text.{told_facts}
use Rattle.kc_watch.specs.declared.options.WatchOptions.{WatchOptions}

-- no batch is dropped, and none was
pub record DropsNone (heard : Heard) : Type 0 where
  pub undropped : heard.dropped ≡ None
  pub count : heard.refused_batches ≡ 0

-- where bad lines end the reading, none is with one line more that is judged
judged-none : (heard : Heard) (line : TextLine) (cause : Option Kind) → DropsNone heard → DropsNone (judged on_bad.Stop heard line cause)
judged-none heard line None d = record { undropped = refl; count = d.count }
judged-none heard line (Some kind) d = record { undropped = refl; count = d.count }

-- nor with any line more
hear-drops_none : (heard : Heard) (line : StreamLine) → DropsNone heard → DropsNone (hear on_bad.Stop heard line)
hear-drops_none heard line d = elim (cases_Bool (is_some heard.refusal)) [
  | inl some ↦ subst DropsNone (sym (hear-refused on_bad.Stop heard line some)) d
  | inr going ↦
      let told : TextLine = told_by heard.told line in
      subst DropsNone (sym (hear-judged on_bad.Stop heard told (none-from heard.refusal going) d.undropped))
      (judged-none heard told (refused heard.told told) d)
]

-- nor with all
pub all-drop_none : (lines : List StreamLine) (heard : Heard) → DropsNone heard → DropsNone (hear_all on_bad.Stop heard lines)
all-drop_none [] heard d = d
all-drop_none (line ∷ lines) heard d = all-drop_none lines (hear on_bad.Stop heard line) (hear-drops_none heard line d)

-- where all lines were read, the first was
going-first : (heard : Heard) (lines : List StreamLine) → (hear_all on_bad.Stop heard lines).refusal ≡ None → heard.refusal ≡ None
going-first heard lines none = elim (cases_Bool (is_some heard.refusal)) [
  | inl some ↦ ap (λ (h : Heard). h.refusal) (sym (hear-none on_bad.Stop heard lines some)) ∙ none
  | inr going ↦ none-from heard.refusal going
]

-- a line that is not refused is heard in both ways alike
judged-same : (heard : Heard) (line : TextLine) (cause : Option Kind) → (judged on_bad.Stop heard line cause).refusal ≡ None
    → judged on_bad.Stop heard line cause ≡ judged on_bad.Batch heard line cause
judged-same heard line None fine = refl
judged-same heard line (Some kind) fine = absurd (clash fine)
  where
    clash : {refusal : Refusal} → Some refusal ≡ None → ⊥
    clash e = cc

hear-same : (heard : Heard) (line : StreamLine) → heard.refusal ≡ None → heard.dropped ≡ None → (hear on_bad.Stop heard line).refusal ≡ None
    → hear on_bad.Stop heard line ≡ hear on_bad.Batch heard line
hear-same heard line none going fine =
    let told : TextLine = told_by heard.told line in
    let stop : hear on_bad.Stop heard line ≡ judged on_bad.Stop heard told (refused heard.told told) = hear-judged on_bad.Stop heard told none going in
    stop ∙ judged-same heard told (refused heard.told told) (ap (λ (h : Heard). h.refusal) (sym stop) ∙ fine)
    ∙ sym (hear-judged on_bad.Batch heard told none going)

-- Two options that ask for the same of ids that change.
module _ (one other : WatchOptions) (show : one.show ≡ other.show) (enter : one.enter ≡ other.enter) where
  -- of what is open the same is told
  open-same : (told : Told) → open_facts one told ≡ open_facts other told
  open-same told =
      elim told.last as (λ (l : Option (List ChangeLine)). part_facts one told.edges told.earlier l ≡ part_facts other told.edges told.earlier l) [
        | None ↦ refl
        | Some changes ↦
            let before : Account = account_of told.edges told.earlier in
            let batch : EdgeBatch = batch_behind before changes in
            let after : Account = with_batch before changes in
            ap₂ (λ (s : Show) (k : Option ℕ). fact.Summary (line_about after.ended before.graph batch after.graph)
            ∷ facts_behind s k (core_number_in before) (core_number_in after) after.ids) show enter
      ]

  ending-same : (dropped : Option Refusal) (told : Told) → ending_facts one dropped told ≡ ending_facts other dropped told
  ending-same None told = open-same told
  ending-same (Some refusal) told = refl

  -- so it is of a line
  told-same : (dropped : Option Refusal) (told : Told) (line : TextLine) → told_facts one dropped told line ≡ told_facts other dropped told line
  told-same dropped told said.Nothing = refl
  told-same dropped told (said.Edge a b) = refl
  told-same dropped told said.Batch = ending-same dropped told
  told-same dropped told (said.Change c) = refl
  told-same dropped told (said.Wrong kind) = refl

  line-same : (dropped : Option Refusal) (told : Told) (line : StreamLine) → line_facts one dropped told line ≡ line_facts other dropped told line
  line-same dropped told (Tells line) = told-same dropped told line
  line-same dropped told (Asks question) = refl

  pub answer-same : (heard : Heard) (line : StreamLine) → answer_facts one heard line ≡ answer_facts other heard line
  answer-same heard line = ap (λ (t : List Fact). cond (is_some heard.refusal) [] t) (line-same heard.dropped heard.told line)

  -- and of the end
  pub end-same : (heard : Heard) → end_facts one heard ≡ end_facts other heard
  end-same heard = ap (λ (t : List Fact). cond (is_some heard.refusal) [] t) (ending-same heard.dropped heard.told)

  -- Where the same becomes of bad lines, the same is told of all lines.
  pub all-same : (bad : one.bad_lines ≡ other.bad_lines) (heard : Heard) (lines : List StreamLine)
      → answers_facts one heard lines ≡ answers_facts other heard lines
  all-same bad heard [] = refl
  all-same bad heard (line ∷ lines) =
      ap₂ (λ (a b : List Fact). a ++ b) (answer-same heard line)
      (all-same bad (hear one.bad_lines heard line) lines ∙ ap (λ (how : BadLines). answers_facts other (hear how heard line) lines) bad)

-- the options with one way or the other
abbrev pub options_with : WatchOptions → BadLines → WatchOptions
options_with options how = record options { bad_lines = how }

-- Where no line is refused, lines come to the same in both ways, and the same is told of them.
pub lines-same : (options : WatchOptions) (lines : List StreamLine) (heard : Heard) → DropsNone heard → (hear_all on_bad.Stop heard lines).refusal ≡ None
    → (hear_all on_bad.Stop heard lines ≡ hear_all on_bad.Batch heard lines)
    × (answers_facts (options_with options on_bad.Stop) heard lines ≡ answers_facts (options_with options on_bad.Batch) heard lines)
lines-same options [] heard d fine = (refl, refl)
lines-same options (line ∷ lines) heard d fine =
    let next : Heard = hear on_bad.Stop heard line in
    let same : next ≡ hear on_bad.Batch heard line =
    hear-same heard line (going-first heard (line ∷ lines) fine) d.undropped (going-first next lines fine) in
    let (rest, told) = lines-same options lines next (hear-drops_none heard line d) fine in (
      rest ∙ ap (λ (h : Heard). hear_all on_bad.Batch h lines) same,
      ap₂ (λ (a b : List Fact). a ++ b) (answer-same (options_with options on_bad.Stop) (options_with options on_bad.Batch) refl refl heard line)
          (told ∙ ap (λ (h : Heard). answers_facts (options_with options on_bad.Batch) h lines) same),
    )

-- so the end tells the same, if it comes to the same
pub end-told : (options : WatchOptions) (stop batch : Heard) → stop ≡ batch
    → end_facts (options_with options on_bad.Stop) stop ≡ end_facts (options_with options on_bad.Batch) batch
end-told options stop batch same =
    end-same (options_with options on_bad.Stop) (options_with options on_bad.Batch) refl refl stop
    ∙ ap (end_facts (options_with options on_bad.Batch)) same

-- the options in a format
abbrev pub options_in : WatchOptions → ReplyFormat → WatchOptions
options_in options format = record options { format = format }

-- in each format the same is told of lines
pub lines-told : (options : WatchOptions) (format : ReplyFormat) (heard : Heard) (lines : List StreamLine)
    → answers_facts (options_in options format) heard lines ≡ answers_facts options heard lines
lines-told options format heard lines = all-same (options_in options format) options refl refl refl heard lines

-- and of all, once all has come
pub all-told : (options : WatchOptions) (format : ReplyFormat) (bytes : List ℕ) → facts_at_end (options_in options format) bytes ≡ facts_at_end options bytes
all-told options format bytes =
    ap₂ (λ (a b : List Fact). a ++ b) (lines-told options format nothing_heard (stream_lines bytes))
    (end-same (options_in options format) options refl refl (heard_at_end options.bad_lines bytes))

-- the options with so many workers
abbrev pub options_by : WatchOptions → ℕ → WatchOptions
options_by options workers = record options { workers = workers }

-- by any number of workers the same is told of lines
pub lines-by : (options : WatchOptions) (workers : ℕ) (heard : Heard) (lines : List StreamLine)
    → answers_facts (options_by options workers) heard lines ≡ answers_facts options heard lines
lines-by options workers heard lines = all-same (options_by options workers) options refl refl refl heard lines

-- and of all, once all has come
pub all-by : (options : WatchOptions) (workers : ℕ) (bytes : List ℕ) → facts_at_end (options_by options workers) bytes ≡ facts_at_end options bytes
all-by options workers bytes =
    ap₂ (λ (a b : List Fact). a ++ b) (lines-by options workers nothing_heard (stream_lines bytes))
    (end-same (options_by options workers) options refl refl (heard_at_end options.bad_lines bytes))
