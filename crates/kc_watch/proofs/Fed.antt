-- What a watcher was fed, one piece after another.
use Rattle.std.proofs.Common.{◌≡◌, ◌<◌, ℕ, Bool, true, false, cond, List, [], ◌∷◌, ◌++◌, length, refl, sym, ap, ap₂, ◌∙◌, subst, arith}
use Rattle.std.proofs.Common.{append_assoc, append-nil, Option, Some, None}
use Rattle.std.specs.Prelude.{OnErr, OnOk, Result, Ok, Err, is_some}
use Rattle.kc_dialogue.specs.Replies.{IsPrefixOf, StaysFrom}
use Rattle.kc_text.specs.declared.line.TextLine.TheVariants as said
use Rattle.kc_text.specs.declared.refusal.Refusal.{Refusal}
use Rattle.kc_text.specs.Lines.{EndsLine}
use Rattle.kc_text.specs.Meaning.{with_line}
use Rattle.kc_text.proofs.SaidAppend.{ends-append, ends-behind}
use Rattle.kc_stream.specs.Asking.{stream_lines}
use Rattle.kc_stream.specs.Ended.{IsOpen, ended}
use Rattle.kc_stream.specs.Hearing.{Heard, hear_all, heard_at_end, heard_so_far, nothing_heard}
use Rattle.kc_stream.specs.declared.bad_lines.BadLines.{BadLines}
use Rattle.kc_stream.specs.declared.gathered.Gathered.{Gathered}
use Rattle.kc_stream.specs.declared.stream_line.StreamLine.{StreamLine}
use Rattle.kc_stream.proofs.Cuts.{ended-append, ended-parts, open-append}
use Rattle.kc_stream.proofs.Reading.{hear-none, more-ended, so-far, stream-append}
use Rattle.kc_watch.specs.Text.{answers_behind, answers_facts, end_answer, end_facts, ending_facts, ending_text, reply, reply_at_end, told_in}
use Rattle.kc_watch.specs.Watching.{HasEnded, KeepsAccount, KeepsAll, StandsAt, WasFed}
use Rattle.kc_watch.specs.declared.course.Course.{Course}
use Rattle.kc_watch.specs.declared.options.WatchOptions.{WatchOptions}
use Rattle.kc_watch.specs.declared.watcher.Watcher.{Watcher}
use Rattle.kc_watch.proofs.Lines.{answers-append, answers-none, going-heard}
use Rattle.kc_reply.proofs.Texts.{texts-append}

-- what the lines of some bytes come to
abbrev pub heard_of : BadLines → List ℕ → Heard
heard_of bad bytes = hear_all bad nothing_heard (stream_lines bytes)

-- what bytes come to is what their ended lines come to, if the others are of an open line or a line ends the reading
heard-parts : (bad : BadLines) (done rest : List ℕ) → EndsLine done → ((heard_of bad done).refusal ≡ None → IsOpen rest)
    → heard_so_far bad (done ++ rest) ≡ heard_of bad done
heard-parts bad done rest e is_open = by-refusal (heard_of bad done).refusal refl
  where
    by-refusal : (r : Option Refusal) → (heard_of bad done).refusal ≡ r → heard_so_far bad (done ++ rest) ≡ heard_of bad done
    by-refusal None none = so-far bad done rest e (is_open none)
    by-refusal (Some r) some =
        ap (λ (t : List ℕ). hear_all bad nothing_heard (stream_lines t)) (ended-append done rest e) ∙ more-ended bad done (ended rest) e
        ∙ hear-none bad (heard_of bad done) (stream_lines (ended rest)) (ap is_some some)

-- what the lines of some bytes are answered
abbrev pub text_of : WatchOptions → List ℕ → List ℕ
text_of options bytes = answers_behind options nothing_heard (stream_lines bytes)

-- the last reply is what all lines are answered, and then what the end is
at-end : (options : WatchOptions) (bytes : List ℕ)
    → reply_at_end options bytes ≡ text_of options bytes ++ end_answer options (heard_at_end options.bad_lines bytes)
at-end options bytes =
    texts-append options.format (answers_facts options nothing_heard (stream_lines bytes)) (end_facts options (heard_at_end options.bad_lines bytes))

-- what is answered to more bytes behind lines that have ended
text-more : (options : WatchOptions) (done more : List ℕ) → EndsLine done
    → text_of options (done ++ more) ≡ text_of options done ++ answers_behind options (heard_of options.bad_lines done) (stream_lines more)
text-more options done more e =
    ap (λ (ls : List StreamLine). answers_behind options nothing_heard ls) (stream-append done more e)
    ∙ answers-append options nothing_heard (stream_lines done) (stream_lines more)

-- behind a line that ends the reading that is nothing more
text-refused : (options : WatchOptions) (done more : List ℕ) → EndsLine done → is_some (heard_of options.bad_lines done).refusal ≡ true
    → text_of options (done ++ more) ≡ text_of options done
text-refused options done more e some =
    text-more options done more e
    ∙ ap (λ (t : List ℕ). text_of options done ++ t) (answers-none options (heard_of options.bad_lines done) (stream_lines more) some)
    ∙ append-nil (text_of options done)

-- The reply to bytes is what their ended lines are answered, if the others are of an open line or a line ends the reading.
reply-parts : (options : WatchOptions) (done rest : List ℕ) → EndsLine done → ((heard_of options.bad_lines done).refusal ≡ None → IsOpen rest)
    → reply options (done ++ rest) ≡ text_of options done
reply-parts options done rest e is_open = by-refusal (heard_of options.bad_lines done).refusal refl
  where
    by-refusal : (r : Option Refusal) → (heard_of options.bad_lines done).refusal ≡ r → reply options (done ++ rest) ≡ text_of options done
    by-refusal None none = ap (text_of options) (ended-parts done rest e (is_open none))
    by-refusal (Some r) some =
        ap (text_of options) (ended-append done rest e) ∙ text-refused options done (ended rest) e (ap is_some some)

-- what becomes of bad lines
abbrev pub bad_of : Watcher → BadLines
bad_of watcher = watcher.options.bad_lines

module _ (watcher : Watcher) (fed : List ℕ) (f : WasFed watcher fed) where
  -- what was heard of the lines that were read
  abbrev pub heard_by : Heard
  heard_by = heard_of (bad_of watcher) f.done

  open-rest : heard_by.refusal ≡ None → (watcher.begun.items ≡ f.rest) × IsOpen f.rest
  open-rest none = f.begun (f.stands.gathers.refusal ∙ none)

  -- it is what was heard of all that was fed
  pub fed-heard : heard_so_far (bad_of watcher) fed ≡ heard_by
  fed-heard = ap (heard_so_far (bad_of watcher)) f.parts ∙ heard-parts (bad_of watcher) f.done f.rest f.ended (λ none. (open-rest none).1)

  -- so the reply is what the lines that were read are answered
  pub fed-reply : reply watcher.options fed ≡ text_of watcher.options f.done
  fed-reply = ap (reply watcher.options) f.parts ∙ reply-parts watcher.options f.done f.rest f.ended (λ none. (open-rest none).1)

  -- more bytes behind a line that is refused, or of an open line
  pub more-heard : (more : List ℕ) → (heard_by.refusal ≡ None → IsOpen more) → heard_so_far (bad_of watcher) (fed ++ more) ≡ heard_by
  more-heard more is_open =
      ap (λ (t : List ℕ). heard_so_far (bad_of watcher) (t ++ more)) f.parts ∙ ap (heard_so_far (bad_of watcher)) (append_assoc f.done f.rest more)
      ∙ heard-parts (bad_of watcher) f.done (f.rest ++ more) f.ended (λ none. open-append f.rest more (open-rest none).1 (is_open none))

  -- they add nothing to the reply
  pub more-reply : (more : List ℕ) → (heard_by.refusal ≡ None → IsOpen more) → reply watcher.options (fed ++ more) ≡ reply watcher.options fed
  more-reply more is_open =
      ap (λ (t : List ℕ). reply watcher.options (t ++ more)) f.parts ∙ ap (reply watcher.options) (append_assoc f.done f.rest more)
      ∙ reply-parts watcher.options f.done (f.rest ++ more) f.ended (λ none. open-append f.rest more (open-rest none).1 (is_open none))
      ∙ sym fed-reply

  -- a line is refused where the watcher says so
  pub refused-heard : is_some watcher.course.gathered.refusal ≡ true → is_some heard_by.refusal ≡ true
  refused-heard some = ap is_some (sym f.stands.gathers.refusal) ∙ some

  -- and then none is open
  pub refused-open : {P : Type 0} → is_some watcher.course.gathered.refusal ≡ true → heard_by.refusal ≡ None → P
  refused-open some none = absurd (clash (sym (ap is_some none) ∙ refused-heard some))
    where
      clash : false ≡ true → ⊥
      clash e = cc

  -- what was heard once all has come
  pub end-heard : (more : List ℕ) → heard_at_end (bad_of watcher) (fed ++ more) ≡ hear_all (bad_of watcher) heard_by (stream_lines (f.rest ++ more))
  end-heard more = ap (λ (t : List ℕ). heard_at_end (bad_of watcher) (t ++ more)) f.parts ∙ ap (heard_at_end (bad_of watcher)) (append_assoc f.done f.rest more)
      ∙ more-ended (bad_of watcher) f.done (f.rest ++ more) f.ended

  -- what all lines are answered once all has come
  pub end-text : (more : List ℕ)
      → text_of watcher.options (fed ++ more) ≡ text_of watcher.options f.done ++ answers_behind watcher.options heard_by (stream_lines (f.rest ++ more))
  end-text more =
      ap (λ (t : List ℕ). text_of watcher.options (t ++ more)) f.parts ∙ ap (text_of watcher.options) (append_assoc f.done f.rest more)
      ∙ text-more watcher.options f.done (f.rest ++ more) f.ended

  -- Behind a line that is refused nothing is answered.
  pub stays : is_some watcher.course.gathered.refusal ≡ true → StaysFrom (reply watcher.options) (reply_at_end watcher.options) fed
  stays some = λ more.
      let none : heard_at_end (bad_of watcher) (fed ++ more) ≡ heard_by =
      end-heard more ∙ hear-none (bad_of watcher) heard_by (stream_lines (f.rest ++ more)) (refused-heard some) in
      let lines : text_of watcher.options (fed ++ more) ≡ text_of watcher.options f.done =
      end-text more
      ∙ ap (λ (t : List ℕ). text_of watcher.options f.done ++ t) (answers-none watcher.options heard_by (stream_lines (f.rest ++ more)) (refused-heard some))
      ∙ append-nil (text_of watcher.options f.done) in
      let end : end_answer watcher.options (heard_at_end (bad_of watcher) (fed ++ more)) ≡ [] =
      ap (end_answer watcher.options) none
      ∙ ap (λ (b : Bool). told_in watcher.options (cond b [] (ending_facts watcher.options heard_by.dropped heard_by.told))) (refused-heard some) in (
        more-reply more (refused-open some),
        at-end watcher.options (fed ++ more) ∙ ap₂ (λ (a b : List ℕ). a ++ b) lines end ∙ append-nil (text_of watcher.options f.done) ∙ sym fed-reply,
      )

  -- and nothing else once all has come
  pub refused-ended : is_some watcher.course.gathered.refusal ≡ true → HasEnded watcher fed
  refused-ended some =
      let same : heard_by ≡ heard_at_end (bad_of watcher) fed =
      sym (hear-none (bad_of watcher) heard_by (stream_lines (f.rest ++ [])) (refused-heard some)) ∙ sym (end-heard [])
      ∙ ap (heard_at_end (bad_of watcher)) (append-nil fed) in (
        f.stands.gathers.refusal ∙ ap (λ (h : Heard). h.refusal) same,
        f.stands.gathers.refused_batches ∙ ap (λ (h : Heard). h.refused_batches) same,
        λ none. refused-open some (sym f.stands.gathers.refusal ∙ none),
      )

  -- a watcher of which a line is refused was fed whatever comes
  pub fed-refused : (more : List ℕ) → is_some watcher.course.gathered.refusal ≡ true → WasFed watcher (fed ++ more)
  fed-refused more some = record {
    done = f.done;
    rest = f.rest ++ more;
    parts = ap (λ (t : List ℕ). t ++ more) f.parts ∙ append_assoc f.done f.rest more;
    ended = f.ended;
    stands = f.stands;
    begun = λ none. refused-open some (sym f.stands.gathers.refusal ∙ none);
  }

  -- bytes of an open line are kept
  pub fed-open : (new : Watcher) (more : List ℕ) → IsOpen more → new.course ≡ watcher.course → new.options ≡ watcher.options
      → new.begun.items ≡ watcher.begun.items ++ more → WasFed new (fed ++ more)
  fed-open new more o course options begun = record {
    done = f.done;
    rest = f.rest ++ more;
    parts = ap (λ (t : List ℕ). t ++ more) f.parts ∙ append_assoc f.done f.rest more;
    ended = f.ended;
    stands = subst (λ (o : WatchOptions). StandsAt new.course (heard_of o.bad_lines f.done)) (sym options)
        (subst (λ c. StandsAt c heard_by) (sym course) f.stands);
    begun = λ none.
        let (is, was) = f.begun (ap (λ c. c.gathered.refusal) (sym course) ∙ none) in
        (begun ∙ ap (λ (t : List ℕ). t ++ more) is, open-append f.rest more was o);
  }

  module _ (none : watcher.course.gathered.refusal ≡ None) where
    -- the bytes that are kept are those behind the lines that were read
    pub kept-is : watcher.begun.items ≡ f.rest
    kept-is = (f.begun none).0

    pub going : heard_by.refusal ≡ None
    going = sym f.stands.gathers.refusal ∙ none

    whole-parts : (whole : List ℕ) → fed ++ whole ≡ f.done ++ (watcher.begun.items ++ whole)
    whole-parts whole = ap (λ (t : List ℕ). t ++ whole) f.parts ∙ append_assoc f.done f.rest whole
        ∙ ap (λ (t : List ℕ). f.done ++ (t ++ whole)) (sym kept-is)

    whole-ends : (whole : List ℕ) → EndsLine whole → 0 < length whole → EndsLine (f.done ++ (watcher.begun.items ++ whole))
    whole-ends whole e some = ends-append f.done (watcher.begun.items ++ whole) f.ended (ends-behind watcher.begun.items whole e some)

    -- lines were read that end in some bytes
    pub fed-lines : (new : Watcher) (whole : List ℕ) → EndsLine whole → 0 < length whole
        → StandsAt new.course (hear_all (bad_of watcher) heard_by (stream_lines (watcher.begun.items ++ whole))) → new.options ≡ watcher.options
        → new.begun.items ≡ [] → WasFed new (fed ++ whole)
    fed-lines new whole e some stands options empty = record {
      done = f.done ++ (watcher.begun.items ++ whole);
      rest = [];
      parts = whole-parts whole ∙ sym (append-nil (f.done ++ (watcher.begun.items ++ whole)));
      ended = whole-ends whole e some;
      stands = subst (λ (o : WatchOptions). StandsAt new.course (heard_of o.bad_lines (f.done ++ (watcher.begun.items ++ whole)))) (sym options)
          (subst (StandsAt new.course) (sym (more-ended (bad_of watcher) f.done (watcher.begun.items ++ whole) f.ended)) stands);
      begun = λ _. (empty, refl);
    }

    -- the reply to them
    pub lines-reply : (whole : List ℕ) → EndsLine whole → 0 < length whole
        → reply watcher.options (fed ++ whole)
        ≡ reply watcher.options fed ++ answers_behind watcher.options heard_by (stream_lines (watcher.begun.items ++ whole))
    lines-reply whole e some =
        let done : List ℕ = f.done ++ (watcher.begun.items ++ whole) in
        ap (reply watcher.options) (whole-parts whole ∙ sym (append-nil done)) ∙ reply-parts watcher.options done [] (whole-ends whole e some) (λ _. refl)
        ∙ text-more watcher.options f.done (watcher.begun.items ++ whole) f.ended
        ∙ ap (λ (t : List ℕ). t ++ answers_behind watcher.options heard_by (stream_lines (watcher.begun.items ++ whole))) (sym fed-reply)

    -- what is heard at the end
    pub end-is : heard_at_end (bad_of watcher) fed ≡ hear_all (bad_of watcher) heard_by (stream_lines watcher.begun.items)
    end-is = ap (heard_at_end (bad_of watcher)) (sym (append-nil fed)) ∙ end-heard []
        ∙ ap (λ (t : List ℕ). hear_all (bad_of watcher) heard_by (stream_lines t)) (append-nil f.rest ∙ sym kept-is)

    -- and what all lines are answered then
    pub end-lines : text_of watcher.options fed ≡ reply watcher.options fed
        ++ answers_behind watcher.options heard_by (stream_lines watcher.begun.items)
    end-lines =
        ap (text_of watcher.options) (sym (append-nil fed)) ∙ end-text []
        ∙ ap₂ (λ (a : List ℕ) (t : List ℕ). a ++ answers_behind watcher.options heard_by (stream_lines t)) (sym fed-reply) (append-nil f.rest ∙ sym kept-is)

-- a text that was put is an answer, or memory broke it off
abbrev pub Answers : {E : Type 0} → Result (Unit {0}) E → List ℕ → List ℕ → Type 0
Answers r answer put = OnOk r (put ≡ answer) × OnErr r (IsPrefixOf answer put)

-- a reply goes on with it
abbrev pub GoesOn : {E : Type 0} → Result (Unit {0}) E → List ℕ → List ℕ → List ℕ → Type 0
GoesOn r all before put = OnOk r (all ≡ before ++ put) × OnErr r (IsPrefixOf all (before ++ put))

-- where an answer was put that memory broke off, the reply begins with what was written
prefix-behind : (all before answer put : List ℕ) → all ≡ before ++ answer → IsPrefixOf answer put → IsPrefixOf all (before ++ put)
prefix-behind all before answer put is (left, begins) =
    (left, is ∙ ap (λ (t : List ℕ). before ++ t) begins ∙ sym (append_assoc before put left))

-- where a reply goes on with an answer, it goes on with what was put of it
goes-on : {E : Type 0} (r : Result (Unit {0}) E) (all before answer put : List ℕ) → all ≡ before ++ answer → Answers r answer put → GoesOn r all before put
goes-on (Ok u) all before answer put is h = (is ∙ ap (λ (t : List ℕ). before ++ t) (sym h.0), tt)
goes-on (Err x) all before answer put is h = (tt, prefix-behind all before answer put is h.1)

-- the lines of some bytes are read that end in bytes behind those that are kept
module _ (watcher : Watcher) (none : watcher.course.gathered.refusal ≡ None) (whole bytes : List ℕ) (ends : EndsLine whole) (some : 0 < length whole)
    (is : bytes ≡ watcher.begun.items ++ whole) where
  -- lines were read that end in some bytes
  pub read-fed : (new : Watcher)
      → ((heard : Heard) → StandsAt watcher.course heard → StandsAt new.course (hear_all (bad_of watcher) heard (stream_lines bytes)))
      → new.options ≡ watcher.options → new.begun.items ≡ [] → (fed : List ℕ) → WasFed watcher fed → WasFed new (fed ++ whole)
  read-fed new stands options empty fed f =
      fed-lines watcher fed f none new whole ends some
      (subst (λ (t : List ℕ). StandsAt new.course (hear_all (bad_of watcher) (heard_by watcher fed f) (stream_lines t))) is
      (stands (heard_by watcher fed f) f.stands)) options empty

  -- the reply goes on with what they are answered
  read-reply : (fed : List ℕ) (f : WasFed watcher fed)
      → reply watcher.options (fed ++ whole) ≡ reply watcher.options fed ++ answers_behind watcher.options (heard_by watcher fed f) (stream_lines bytes)
  read-reply fed f =
      lines-reply watcher fed f none whole ends some
      ∙ ap (λ (t : List ℕ). reply watcher.options fed ++ answers_behind watcher.options (heard_by watcher fed f) (stream_lines t)) (sym is)

  -- so it goes on with what was put of that
  pub read-answers : {E : Type 0} (r : Result (Unit {0}) E) (put : List ℕ)
      → ((heard : Heard) → StandsAt watcher.course heard → Answers r (answers_behind watcher.options heard (stream_lines bytes)) put)
      → (fed : List ℕ) → WasFed watcher fed → GoesOn r (reply watcher.options (fed ++ whole)) (reply watcher.options fed) put
  read-answers r put answers fed f =
      goes-on r _ _ (answers_behind watcher.options (heard_by watcher fed f) (stream_lines bytes)) put (read-reply fed f)
      (answers (heard_by watcher fed f) f.stands)

  -- where all was put
  pub read-all : (put : List ℕ)
      → ((heard : Heard) → StandsAt watcher.course heard → put ≡ answers_behind watcher.options heard (stream_lines bytes))
      → (fed : List ℕ) → WasFed watcher fed → reply watcher.options (fed ++ whole) ≡ reply watcher.options fed ++ put
  read-all put answers fed f =
      read-reply fed f ∙ ap (λ (t : List ℕ). reply watcher.options fed ++ t) (sym (answers (heard_by watcher fed f) f.stands))

  -- where memory ended
  pub read-broken : (put : List ℕ)
      → ((heard : Heard) → StandsAt watcher.course heard → IsPrefixOf (answers_behind watcher.options heard (stream_lines bytes)) put)
      → (fed : List ℕ) → WasFed watcher fed → IsPrefixOf (reply watcher.options (fed ++ whole)) (reply watcher.options fed ++ put)
  read-broken put answers fed f =
      prefix-behind _ (reply watcher.options fed) (answers_behind watcher.options (heard_by watcher fed f) (stream_lines bytes)) put (read-reply fed f)
      (answers (heard_by watcher fed f) f.stands)

-- The stream ends with the bytes that are kept.
module _ (watcher : Watcher) (none : watcher.course.gathered.refusal ≡ None) (bytes : List ℕ) (is : bytes ≡ watcher.begun.items) (fed : List ℕ)
    (f : WasFed watcher fed) where
  -- what is heard then
  abbrev pub heard_then : Heard
  heard_then = hear_all (bad_of watcher) (heard_by watcher fed f) (stream_lines bytes)

  end-then : heard_at_end (bad_of watcher) fed ≡ heard_then
  end-then = end-is watcher fed f none ∙ ap (λ (t : List ℕ). hear_all (bad_of watcher) (heard_by watcher fed f) (stream_lines t)) (sym is)

  -- what the lines are answered then
  abbrev pub answer_then : List ℕ
  answer_then = answers_behind watcher.options (heard_by watcher fed f) (stream_lines bytes)

  -- the last reply: the reply so far, what the lines are answered, and what the end is
  end-reply : reply_at_end watcher.options fed ≡ reply watcher.options fed ++ (answer_then ++ end_answer watcher.options heard_then)
  end-reply =
      at-end watcher.options fed ∙ ap₂ (λ (a b : List ℕ). a ++ b)
      (end-lines watcher fed f none
      ∙ ap (λ (t : List ℕ). reply watcher.options fed ++ answers_behind watcher.options (heard_by watcher fed f) (stream_lines t)) (sym is))
      (ap (end_answer watcher.options) end-then)
      ∙ append_assoc (reply watcher.options fed) (answer_then) (end_answer watcher.options heard_then)

  -- a course that has come to it has the line that ends the reading, and counts the batches that were dropped
  pub end-refusal : (gathered : Gathered) (course : Course) → StandsAt course heard_then → gathered ≡ course.gathered
      → (gathered.refusal ≡ (heard_at_end (bad_of watcher) fed).refusal)
      × (gathered.refused_batches ≡ (heard_at_end (bad_of watcher) fed).refused_batches)
  end-refusal gathered course s same = (
    ap (λ (g : Gathered). g.refusal) same ∙ s.gathers.refusal ∙ ap (λ (h : Heard). h.refusal) (sym end-then),
    ap (λ (g : Gathered). g.refused_batches) same ∙ s.gathers.refused_batches ∙ ap (λ (h : Heard). h.refused_batches) (sym end-then),
  )

  -- a course that has come to it and ended what was open keeps all that was told
  pub end-keeps : (new course : Course) → StandsAt course heard_then → is_some course.gathered.refusal ≡ false → new.gathered ≡ course.gathered
      → KeepsAccount new.kept new.ended (with_line heard_then.told said.Batch) → KeepsAll new (heard_at_end (bad_of watcher) fed).told
  end-keeps new course s going same keeps = subst (λ (h : Heard). KeepsAll new h.told) (sym end-then) (record {
    ids = ap (λ (g : Gathered). g.ids) same ∙ (s.gathers.holds (going-heard course heard_then s going)).ids;
    keeps = keeps;
  })

  -- memory ended before all was read
  pub end-broken : (put : List ℕ) → IsPrefixOf (answer_then) put
      → IsPrefixOf (reply_at_end watcher.options fed) (reply watcher.options fed ++ put)
  end-broken put (left, begins) =
      prefix-behind _ (reply watcher.options fed) (answer_then ++ end_answer watcher.options heard_then) put (end-reply) (
        left ++ end_answer watcher.options heard_then,
        ap (λ (t : List ℕ). t ++ end_answer watcher.options heard_then) begins ∙ append_assoc put left (end_answer watcher.options heard_then),
      )

  -- a line is refused then
  pub end-refused : (new : Course) (put : List ℕ) → StandsAt new heard_then → is_some new.gathered.refusal ≡ true
      → put ≡ answer_then → reply_at_end watcher.options fed ≡ reply watcher.options fed ++ put
  end-refused new put s some adds =
      let end : end_answer watcher.options heard_then ≡ [] =
      ap (λ (b : Bool). told_in watcher.options (cond b [] (ending_facts watcher.options heard_then.dropped heard_then.told)))
      (ap is_some (sym s.gathers.refusal) ∙ some) in
      end-reply ∙ ap (λ (t : List ℕ). reply watcher.options fed ++ t)
      (ap (λ (t : List ℕ). answer_then ++ t) end ∙ append-nil (answer_then) ∙ sym adds)

  -- or none is, and what is open ends
  pub end-answers : {E : Type 0} (r : Result (Unit {0}) E) (new : Course) (put more : List ℕ) → StandsAt new heard_then
      → is_some new.gathered.refusal ≡ false → put ≡ answer_then → Answers r (ending_text watcher.options heard_then.dropped heard_then.told) more
      → GoesOn r (reply_at_end watcher.options fed) (reply watcher.options fed) (put ++ more)
  end-answers r new put more s going adds answers =
      let end : end_answer watcher.options heard_then ≡ ending_text watcher.options heard_then.dropped heard_then.told =
      ap (λ (o : Option Refusal). told_in watcher.options (cond (is_some o) [] (ending_facts watcher.options heard_then.dropped heard_then.told)))
      (going-heard new heard_then s going) in
      let all : reply_at_end watcher.options fed ≡ (reply watcher.options fed ++ put) ++ ending_text watcher.options heard_then.dropped heard_then.told =
      end-reply ∙ ap₂ (λ (a b : List ℕ). reply watcher.options fed ++ (a ++ b)) (sym adds) end
      ∙ sym (append_assoc (reply watcher.options fed) put (ending_text watcher.options heard_then.dropped heard_then.told)) in
      subst (λ (t : List ℕ). OnOk r (reply_at_end watcher.options fed ≡ t) × OnErr r (IsPrefixOf (reply_at_end watcher.options fed) t))
      (append_assoc (reply watcher.options fed) put more) (goes-on r _ _ (ending_text watcher.options heard_then.dropped heard_then.told) more all answers)

-- no bytes are fed
pub fed-none : (watcher : Watcher) (fed whole : List ℕ) → length whole ≡ 0 → WasFed watcher fed → WasFed watcher (fed ++ whole)
fed-none watcher fed [] e f = subst (WasFed watcher) (sym (append-nil fed)) f
fed-none watcher fed (b ∷ whole) e f = absurd (omega (arith, e))

-- and answered by nothing
pub none-reply : (options : WatchOptions) (fed whole : List ℕ) → length whole ≡ 0 → reply options (fed ++ whole) ≡ reply options fed ++ []
none-reply options fed [] e = ap (reply options) (append-nil fed) ∙ sym (append-nil (reply options fed))
none-reply options fed (b ∷ whole) e = absurd (omega (arith, e))

-- bytes of an open line behind lines that end add nothing
pub open-reply : (watcher : Watcher) (fed whole rest : List ℕ) → WasFed watcher fed → watcher.course.gathered.refusal ≡ None → EndsLine whole
    → IsOpen rest → reply watcher.options ((fed ++ whole) ++ rest) ≡ reply watcher.options (fed ++ whole)
open-reply watcher fed [] rest f none e o =
    ap (λ (t : List ℕ). reply watcher.options (t ++ rest)) (append-nil fed) ∙ more-reply watcher fed f rest (λ _. o)
    ∙ ap (reply watcher.options) (sym (append-nil fed))
open-reply watcher fed (b ∷ whole) rest f none e o =
    let done : List ℕ = f.done ++ (watcher.begun.items ++ (b ∷ whole)) in
    let ends : EndsLine done = whole-ends watcher fed f none (b ∷ whole) e (omega arith) in
    let is : fed ++ (b ∷ whole) ≡ done = whole-parts watcher fed f none (b ∷ whole) in
    ap (λ (t : List ℕ). reply watcher.options (t ++ rest)) is ∙ reply-parts watcher.options done rest ends (λ _. o)
    ∙ sym (reply-parts watcher.options done [] ends (λ _. refl)) ∙ ap (reply watcher.options) (append-nil done ∙ sym is)

-- a list without elements is empty
pub nil-from : (xs : List ℕ) → length xs ≡ 0 → xs ≡ []
nil-from [] e = refl
nil-from (x ∷ xs) e = absurd (omega (arith, e))
