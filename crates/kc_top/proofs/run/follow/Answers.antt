-- Where there is no text, nothing was taken or left; else what was taken of it, and its first piece, is what the write tells.
use Rattle.std.proofs.Common.{◌≡◌, ◌≤◌, ◌<◌, ◌∙◌, ℕ, List, Option, Result, Some, false, length, subst, sym, take, true}
use Rattle.std.specs.Prelude.{OnErr, OnOk}
use Rattle.std.specs.Result.{is_err}
use Rattle.std.specs.Io.KnownBytes.{Appends}
use Rattle.kc_io.specs.FirstPiece.{KeepsFirst}
use Rattle.kc_read.proofs.Outcomes.{at_err, at_ok}
use Rattle.kc_output.specs.declared.setting.Setting.{Setting}
use Rattle.kc_top.specs.Leaving.{AnswersInput}
use Rattle.kc_top.proofs.Promised.{EndedFor-cut, EndedFor-done, EndedFor-stopped, EndedFor-without_text}
use Rattle.kc_top.proofs.Stopping.{IsAnswer-of, some_text}
use Rattle.kc_run.specs.declared.ran.Ran.{Ran}
use Rattle.kc_top.proofs.run.follow.Goals as goal

-- a text is not empty, so what was written of it was offered whole
offered-so : (setting : Setting) (input : Option (List ℕ)) (before after : Option ℕ) (text written : List ℕ) (ran : Ran)
    → AnswersInput (Some setting) input text ran → written ≡ text → (0 < length written → KeepsFirst before after written) → KeepsFirst before after text
offered-so setting input before after text written ran answers is first =
    let answer = IsAnswer-of (Some setting) input text ran answers in
    subst (λ (t : List ℕ). KeepsFirst before after t) is
    (first (subst (λ (t : List ℕ). 0 < length t) (sym is) (some_text answer.setting answer.bytes text answer.is)))

-- all of the text was taken where the write is no error
whole : {T E : Type 0} (r : Result T E) (before after : Option (List ℕ)) (text written : List ℕ) → OnOk r (Appends before after written)
    → is_err r ≡ false → written ≡ text → Appends before after text
whole r before after text written took is same = subst (Appends before after) same (at_ok r took is)

-- a prefix of the text was taken where the write is an error
front : {T E : Type 0} (r : Result T E) (before after : Option (List ℕ)) (text written : List ℕ)
    → OnErr r ((n : ℕ) × (n ≤ length written) × Appends before after (take n written)) → is_err r ≡ true → written ≡ text
    → (n : ℕ) × (n ≤ length text) × Appends before after (take n text)
front r before after text written took is same =
    let taken : List ℕ → Type 0 = λ t. (n : ℕ) × (n ≤ length t) × Appends before after (take n t) in subst taken same (at_err r took is)

pub returns-in_err-text-clause-ended : goal.returns-in_err-text-clause-ended
returns-in_err-text-clause-ended g c =
    EndedFor-stopped g.S.Source g.O.Sink (Some c.args.setting) c.from_residual.result c.in_err-text.field-0.0 c.args.streams.now.source
    c.text_for.new.source c.args.streams.now.out c.args.streams.now.out c.args.ran.now c.text_for.new.ran c.from_residual.ensures.1
    (EndedFor-without_text g.S.Source g.O.Sink c.args.setting c.in_err-text.field-0.0 c.args.streams.now.source c.text_for.new.source
    c.args.streams.now.out c.args.ran.now c.text_for.new.ran c.text_for.ensures.unread c.in_err-text.ensures.accepted c.in_err-text.ensures.stopped
    c.in_err-text.ensures.untouched)

pub returns-clause-ended : goal.returns-clause-ended
returns-clause-ended g c =
    let no_error = sym c.is_err.ensures.value ∙ c.if-is_err.false in
    EndedFor-done g.S.Source g.O.Sink c.args.setting c.in_ok-text.text.items c.args.streams.now.source c.text_for.new.source
    c.args.streams.now.out c.write_all.new.sink c.args.ran.now c.text_for.new.ran c.text_for.ensures.unread c.in_ok-text.ensures.read
    c.in_ok-text.ensures.faultless c.in_ok-text.ensures.text
    (whole c.write_all.result (g.O.Sink.taken c.args.streams.now.out) (g.O.Sink.taken c.write_all.new.sink) c.in_ok-text.text.items c.deref.result.now
    c.write_all.ensures.whole no_error c.deref.ensures.value)
    (offered-so c.args.setting _ _ _ c.in_ok-text.text.items c.deref.result.now _ c.in_ok-text.ensures.text c.deref.ensures.value
    c.write_all.ensures.first)
    (at_ok c.write_all.result c.write_all.ensures.cause.kept no_error)

pub returns-then-is_err-clause-ended : goal.returns-then-is_err-clause-ended
returns-then-is_err-clause-ended g c =
    let error = sym c.is_err.ensures.value ∙ c.if-is_err.true in
    EndedFor-cut g.S.Source g.O.Sink c.args.setting c.in_ok-text.text.items c.args.streams.now.source c.text_for.new.source
    c.args.streams.now.out c.write_all.new.sink c.args.ran.now c.text_for.new.ran c.text_for.ensures.unread c.in_ok-text.ensures.faultless
    c.in_ok-text.ensures.text
    (front c.write_all.result (g.O.Sink.taken c.args.streams.now.out) (g.O.Sink.taken c.write_all.new.sink) c.in_ok-text.text.items c.deref.result.now
    c.write_all.ensures.prefix error c.deref.ensures.value)
    (offered-so c.args.setting _ _ _ c.in_ok-text.text.items c.deref.result.now _ c.in_ok-text.ensures.text c.deref.ensures.value
    c.write_all.ensures.first)
    (at_err c.write_all.result c.write_all.ensures.cause.failed error)
