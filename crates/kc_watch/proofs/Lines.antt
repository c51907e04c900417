-- What one line is answered, and what it leaves of what is kept.
use Rattle.std.proofs.Common.{◌≡◌, ◌≢◌, ℕ, Bool, true, false, cond, List, [], ◌∷◌, ◌++◌, refl, sym, ap, ap₂, ◌∙◌, subst}
use Rattle.std.proofs.Common.{append_assoc, append-nil, inl, inr, Option, Some, None}
use Rattle.std.specs.Prelude.{IsErr, OnErr, OnOk, Result, Ok, Err, is_some, not}
use Rattle.std.proofs.lemmas.Bool.{cases_Bool, true≢false}
use Rattle.kc_dialogue.specs.Replies.{IsPrefixOf}
use Rattle.kc_text.specs.declared.change.ChangeLine.{ChangeLine}
use Rattle.kc_text.specs.declared.kind.Kind.{Kind}
use Rattle.kc_text.specs.declared.kind.Kind.TheVariants.{EdgeLineInBatch, UpdateOutsideBatch}
use Rattle.kc_text.specs.declared.line.TextLine.{TextLine}
use Rattle.kc_text.specs.declared.line.TextLine.TheVariants as said
use Rattle.kc_text.specs.declared.refusal.Refusal.{Refusal}
use Rattle.kc_text.specs.Meaning.{Told, or_else, unfit, with_line}
use Rattle.kc_stream.specs.Gathering.{Gathers}
use Rattle.kc_stream.specs.declared.bad_lines.BadLines.{BadLines}
use Rattle.kc_stream.specs.declared.bad_lines.BadLines.TheVariants as on_bad
use Rattle.kc_stream.specs.Hearing.{Heard, batch_dropped, hear, hear_all, hear_told, judged, passed, passed_limit, refuse, refused, stopped, told_by}
use Rattle.kc_stream.specs.declared.question.Question.{Question}
use Rattle.kc_stream.specs.declared.stream_line.StreamLine.{StreamLine}
use Rattle.kc_stream.specs.declared.stream_line.StreamLine.TheVariants.{Tells, Asks}
use Rattle.kc_lists.proofs.Results.{none-from}
use Rattle.kc_stream.proofs.Reading.{hear-append, hear-judged, hear-passed, hear-refused}
use Rattle.kc_reply.specs.Facts.{Fact}
use Rattle.kc_reply.proofs.Texts.{texts-append}
use Rattle.kc_watch.specs.Text.{answer_behind, answer_facts, answers_behind, answers_facts, ending_facts, ending_text, line_facts, question_answer}
use Rattle.kc_watch.specs.Text.{question_facts, told_facts, told_in}
use Rattle.kc_watch.specs.Watching.{KeepsAccount, StandsAt}
use Rattle.kc_watch.specs.declared.course.Course.{Course}
use Rattle.kc_watch.specs.declared.kept.Kept.{Kept}
use Rattle.kc_watch.specs.declared.options.WatchOptions.{WatchOptions}

-- a text begins with the same one
pub prefix-same : (xs ys : List ℕ) → xs ≡ ys → IsPrefixOf xs ys
prefix-same xs ys e = ([], e ∙ sym (append-nil ys))

-- and with nothing
pub prefix-none : (xs : List ℕ) → IsPrefixOf xs []
prefix-none xs = (xs, refl)

-- behind an edge line of the start there was no batch line
edge-start : (told : Told) (a b : ℕ) → refused told (said.Edge a b) ≡ None → told.last ≡ None
edge-start told a b fine = none-from told.last (elim (is_some told.last) as (λ s. cond s (Some EdgeLineInBatch)
    (passed_limit (with_line told (said.Edge a b))) ≡ None → s ≡ false) [
      | true ↦ λ bad. absurd (cc)
      | false ↦ λ _. refl
    ] fine)

-- before a change there was one
change-batch : (told : Told) (c : ChangeLine) → refused told (said.Change c) ≡ None → is_some told.last ≡ true
change-batch told c fine = elim told.last as (λ (l : Option (List ChangeLine)). or_else (unfit l c) (passed_limit (with_line told (said.Change c))) ≡ None
    → is_some l ≡ true) [
      | None ↦ λ bad. absurd (cc)
      | Some batch ↦ λ _. refl
    ] fine

-- behind a line that is no batch line and is not refused, what is kept stays right
keeps-same : (kept : Option Kept) (ended : ℕ) (told : Told) (line : TextLine) → line ≢ said.Batch → refused told line ≡ None
    → KeepsAccount kept ended told → KeepsAccount kept ended (with_line told line)
keeps-same kept ended told said.Nothing other fine k = k
keeps-same None ended told (said.Edge a b) other fine k = k
keeps-same (Some kept) ended told (said.Edge a b) other fine (some, graph, count) =
    absurd (clash (sym (ap is_some (edge-start told a b fine)) ∙ some))
  where
    clash : false ≡ true → ⊥
    clash e = cc
keeps-same kept ended told said.Batch other fine k = absurd (other refl)
keeps-same None ended told (said.Change c) other fine (last, count) = absurd (clash (sym (ap is_some last) ∙ change-batch told c fine))
  where
    clash : false ≡ true → ⊥
    clash e = cc
keeps-same (Some kept) ended told (said.Change c) other fine (some, graph, count) = (refl, graph, count)
keeps-same kept ended told (said.Wrong kind) other fine k = k

-- so it does behind a line that is refused
refuse-keeps : (kept : Option Kept) (ended : ℕ) (how : BadLines) (heard : Heard) (refusal : Refusal) → KeepsAccount kept ended heard.told
    → KeepsAccount kept ended (refuse how heard refusal).told
refuse-keeps kept ended on_bad.Stop heard refusal k = k
refuse-keeps None ended on_bad.Batch heard refusal k =
    subst (λ (t : Told). KeepsAccount None ended t)
    (sym (ap (λ (l : Option (List ChangeLine)). let h : Heard = cond (not (is_some l)) (stopped heard refusal) (batch_dropped heard refusal) in h.told) k.0)) k
refuse-keeps (Some kept) ended on_bad.Batch heard refusal (some, graph, count) =
    subst (λ (t : Told). KeepsAccount (Some kept) ended t)
    (sym (ap (λ (b : Bool). let h : Heard = cond (not b) (stopped heard refusal) (batch_dropped heard refusal) in h.told) some)) (refl, graph, count)

-- and behind one that is judged
judged-keeps : (kept : Option Kept) (ended : ℕ) (how : BadLines) (heard : Heard) (line : TextLine) (cause : Option Kind) → line ≢ said.Batch
    → refused heard.told line ≡ cause → KeepsAccount kept ended heard.told → KeepsAccount kept ended (judged how heard line cause).told
judged-keeps kept ended how heard line None other is k = keeps-same kept ended heard.told line other is k
judged-keeps kept ended how heard line (Some kind) other is k = refuse-keeps kept ended how heard _ k

-- and behind one that is passed over
passed-keeps : (kept : Option Kept) (ended : ℕ) (heard : Heard) (line : TextLine) → line ≢ said.Batch → KeepsAccount kept ended heard.told
    → KeepsAccount kept ended (passed heard line).told
passed-keeps kept ended heard said.Nothing other k = k
passed-keeps kept ended heard (said.Edge a b) other k = k
passed-keeps kept ended heard said.Batch other k = absurd (other refl)
passed-keeps kept ended heard (said.Change c) other k = k
passed-keeps kept ended heard (said.Wrong kind) other k = k

-- What is kept stays right behind a line that is no batch line.
pub other-keeps : (kept : Option Kept) (ended : ℕ) (how : BadLines) (heard : Heard) (line : TextLine) → heard.refusal ≡ None → line ≢ said.Batch
    → KeepsAccount kept ended heard.told → KeepsAccount kept ended (hear_told how heard line).told
other-keeps kept ended how heard line none other k = elim (cases_Bool (is_some heard.dropped)) [
  | inl some ↦ subst (λ (h : Heard). KeepsAccount kept ended h.told) (sym (hear-passed how heard line none some)) (passed-keeps kept ended heard line other k)
  | inr going ↦ subst (λ (h : Heard). KeepsAccount kept ended h.told) (sym (hear-judged how heard line none (none-from heard.dropped going)))
      (judged-keeps kept ended how heard line (refused heard.told line) other refl k)
]

-- what holds where a call gave an error, and where it did not
pub on-err : {A E : Type 0} (r : Result A E) (P Q : Type 0) → IsErr r → Q → OnOk r P × OnErr r Q
on-err (Ok a) P Q is q = absurd (true≢false (sym is))
on-err (Err x) P Q is q = (tt, q)

pub on-both : {A E : Type 0} (r : Result A E) (P Q : Type 0) → P → Q → OnOk r P × OnErr r Q
on-both (Ok a) P Q p q = (p, tt)
on-both (Err x) P Q p q = (tt, q)

-- what was put whole, or not at all, begins what was to be put
pub dropped-put : {A E : Type 0} (r : Result A E) (text whole put : List ℕ) → text ≡ whole → OnOk r (put ≡ text) × OnErr r (put ≡ [])
    → OnOk r (put ≡ whole) × OnErr r (IsPrefixOf whole put)
dropped-put (Ok a) text whole put same (is, none) = (is ∙ same, tt)
dropped-put (Err x) text whole put same (is, none) = (tt, subst (IsPrefixOf whole) (sym none) (prefix-none whole))

-- where no line has ended the reading, none was to
pub going-heard : (course : Course) (heard : Heard) → StandsAt course heard → is_some course.gathered.refusal ≡ false → heard.refusal ≡ None
going-heard course heard s going = sym s.gathers.refusal ∙ none-from course.gathered.refusal going

-- a line was gathered that tells no batch line
pub other-stands : (old new : Course) (how : BadLines) (line : TextLine) → line ≢ said.Batch → old.gathered.refusal ≡ None
    → ((told : Told) → KeepsAccount old.kept old.ended told → KeepsAccount new.kept new.ended told)
    → (heard : Heard) → StandsAt old heard → Gathers new.gathered (hear_told how heard line) → StandsAt new (hear_told how heard line)
other-stands old new how line other going keeps heard s gathers =
    let none : heard.refusal ≡ None = sym s.gathers.refusal ∙ going in
    record {
      gathers = gathers;
      keeps = λ _. keeps (hear_told how heard line).told (other-keeps old.kept old.ended how heard line none other (s.keeps none));
    }

-- a question tells no batch line
no-batch_line : (told : Told) (question : Question) → told_by told (Asks question) ≢ said.Batch
no-batch_line told question = elim (is_some told.last) as (λ (b : Bool). cond b said.Nothing (said.Wrong UpdateOutsideBatch) ≢ said.Batch) [
  | true ↦ λ e. cc
  | false ↦ λ e. cc
]

-- a question was gathered
pub asked-stands : (old new : Course) (how : BadLines) (question : Question) → old.gathered.refusal ≡ None
    → ((told : Told) → KeepsAccount old.kept old.ended told → KeepsAccount new.kept new.ended told)
    → ((heard : Heard) → Gathers old.gathered heard → Gathers new.gathered (hear how heard (Asks question)))
    → (heard : Heard) → StandsAt old heard → StandsAt new (hear how heard (Asks question))
asked-stands old new how question going keeps gathers heard s =
    other-stands old new how (told_by heard.told (Asks question)) (no-batch_line heard.told question) going keeps heard s (gathers heard s.gathers)

-- one line more was read of several
pub read-more : (how : BadLines) (heard : Heard) (done : List StreamLine) (line : StreamLine)
    → hear_all how heard (done ++ line ∷ []) ≡ hear how (hear_all how heard done) line
read-more how heard done line = hear-append how heard done (line ∷ [])

module _ (options : WatchOptions) where
  -- a line that tells no batch line is answered nothing
  other-answer : (dropped : Option Refusal) (told : Told) (line : TextLine) → line ≢ said.Batch → told_facts options dropped told line ≡ []
  other-answer dropped told said.Nothing other = refl
  other-answer dropped told (said.Edge a b) other = refl
  other-answer dropped told said.Batch other = absurd (other refl)
  other-answer dropped told (said.Change c) other = refl
  other-answer dropped told (said.Wrong kind) other = refl

  -- so it is behind others
  pub other-behind : (heard : Heard) (line : TextLine) → line ≢ said.Batch → answer_behind options heard (Tells line) ≡ []
  other-behind heard line other =
      elim (is_some heard.refusal) as (λ (b : Bool). told_in options (cond b [] (told_facts options heard.dropped heard.told line)) ≡ []) [
        | true ↦ refl
        | false ↦ ap (told_in options) (other-answer heard.dropped heard.told line other)
      ]

  -- behind a line that is refused none is answered
  refused-behind : (heard : Heard) (line : StreamLine) → is_some heard.refusal ≡ true → answer_facts options heard line ≡ []
  refused-behind heard line some = ap (λ (b : Bool). cond b [] (line_facts options heard.dropped heard.told line)) some

  -- a course of which a line is refused answers none
  pub refused-put : (course : Course) (heard : Heard) (line : StreamLine) → StandsAt course heard → is_some course.gathered.refusal ≡ true
      → answer_behind options heard line ≡ []
  refused-put course heard line s some = ap (told_in options) (refused-behind heard line (ap is_some (sym s.gathers.refusal) ∙ some))

  -- where no line was refused, a batch line is answered the text of what was open
  pub batch-answer : (heard : Heard) → heard.refusal ≡ None → answer_behind options heard (Tells said.Batch) ≡ ending_text options heard.dropped heard.told
  batch-answer heard none = ap (λ (r : Option Refusal). told_in options (cond (is_some r) [] (ending_facts options heard.dropped heard.told))) none

  -- where no line was refused, a question is answered
  pub question-behind : (heard : Heard) (question : Question) → heard.refusal ≡ None
      → answer_behind options heard (Asks question) ≡ question_answer options heard.told question
  question-behind heard question none = ap (λ (r : Option Refusal). told_in options (cond (is_some r) [] (question_facts heard.told question))) none

  -- what is told of lines, and of others behind them
  facts-append : (heard : Heard) (xs ys : List StreamLine)
      → answers_facts options heard (xs ++ ys) ≡ answers_facts options heard xs ++ answers_facts options (hear_all options.bad_lines heard xs) ys
  facts-append heard [] ys = refl
  facts-append heard (x ∷ xs) ys =
      ap (λ (t : List Fact). answer_facts options heard x ++ t) (facts-append (hear options.bad_lines heard x) xs ys)
      ∙ sym (append_assoc (answer_facts options heard x) (answers_facts options (hear options.bad_lines heard x) xs)
      (answers_facts options (hear_all options.bad_lines (hear options.bad_lines heard x) xs) ys))

  -- what lines are answered, and others behind them
  pub answers-append : (heard : Heard) (xs ys : List StreamLine)
      → answers_behind options heard (xs ++ ys) ≡ answers_behind options heard xs ++ answers_behind options (hear_all options.bad_lines heard xs) ys
  answers-append heard xs ys =
      ap (told_in options) (facts-append heard xs ys)
      ∙ texts-append options.format (answers_facts options heard xs) (answers_facts options (hear_all options.bad_lines heard xs) ys)

  -- what lines are answered with one more
  pub answers-more : (heard : Heard) (done : List StreamLine) (line : StreamLine)
      → answers_behind options heard (done ++ line ∷ [])
      ≡ answers_behind options heard done ++ answer_behind options (hear_all options.bad_lines heard done) line
  answers-more heard done line =
      answers-append heard done (line ∷ [])
      ∙ ap (λ (t : List Fact). answers_behind options heard done ++ told_in options t)
      (append-nil (answer_facts options (hear_all options.bad_lines heard done) line))

  -- behind a line that is refused nothing is told
  facts-none : (heard : Heard) (lines : List StreamLine) → is_some heard.refusal ≡ true → answers_facts options heard lines ≡ []
  facts-none heard [] some = refl
  facts-none heard (line ∷ lines) some =
      ap₂ (λ (a b : List Fact). a ++ b) (refused-behind heard line some)
      (ap (λ (h : Heard). answers_facts options h lines) (hear-refused options.bad_lines heard line some) ∙ facts-none heard lines some)

  -- so nothing is answered
  pub answers-none : (heard : Heard) (lines : List StreamLine) → is_some heard.refusal ≡ true → answers_behind options heard lines ≡ []
  answers-none heard lines some = ap (told_in options) (facts-none heard lines some)

  -- what was put for some lines begins what all are answered, also where memory ended at the next one
  pub stopped-prefix : (heard : Heard) (done rest : List StreamLine) (line : StreamLine) (put more : List ℕ) → put ≡ answers_behind options heard done
      → IsPrefixOf (answer_behind options (hear_all options.bad_lines heard done) line) more
      → IsPrefixOf (answers_behind options heard (done ++ line ∷ rest)) (put ++ more)
  stopped-prefix heard done rest line put more is (left, begins) =
      let now : Heard = hear_all options.bad_lines heard done in
      let behind : List ℕ = answers_behind options (hear options.bad_lines now line) rest in (
        left ++ behind,
        answers-append heard done (line ∷ rest)
            ∙ ap₂ (λ (a b : List ℕ). a ++ b) (sym is)
            (texts-append options.format (answer_facts options now line) (answers_facts options (hear options.bad_lines now line) rest))
            ∙ ap (λ (b : List ℕ). put ++ (b ++ behind)) begins
            ∙ ap (λ (t : List ℕ). put ++ t) (append_assoc more left behind) ∙ sym (append_assoc put more (left ++ behind)),
      )
