-- The lines that end in the piece are read, and its rest is kept.
use Rattle.std.proofs.Common.{◌≡◌, ◌++◌, [], ℕ, List, ap, ap₂, sym, subst, refl, ◌∙◌, append-nil, append_assoc, arith, true, false}
use Rattle.std.specs.Prelude.{is_some}
use Rattle.std.proofs.lemmas.List.{take-append-drop}
use Rattle.kc_dialogue.specs.Replies.{IsPrefixOf, StaysFrom}
use Rattle.kc_text.specs.Lines.{EndsLine}
use Rattle.kc_stream.specs.Ended.{IsOpen}
use Rattle.kc_lists.proofs.Results.{none-from}
use Rattle.kc_watch.specs.Text.{reply, reply_at_end}
use Rattle.kc_watch.specs.Watching.{WasFed}
use Rattle.kc_watch.specs.declared.options.WatchOptions.{WatchOptions}
use Rattle.kc_watch.proofs.Fed.{fed-open, fed-refused, more-reply, open-reply, refused-open, stays}
use Rattle.kc_watch.proofs.Lines.{on-err, prefix-same}
use Rattle.kc_watch.proofs.watcher.Watcher.feed_by.Goals as goal

pub returns-then-is_some-clause-put : goal.returns-then-is_some-clause-put
returns-then-is_some-clause-put g c =
    let some : is_some c.args.self.now.course.gathered.refusal ≡ true = grind (arith, c.refusal.ensures, c.is_some.ensures, c.if-is_some.true) in (
      [],
      sym (append-nil c.args.out.now.items),
      λ fed f. (
        more-reply c.args.self.now fed f c.args.piece.now (refused-open c.args.self.now fed f some)
            ∙ sym (append-nil (reply c.args.self.now.options fed)),
        tt,
      ),
    )

pub returns-then-is_some-clause-ended : goal.returns-then-is_some-clause-ended
returns-then-is_some-clause-ended g c = λ _ fed f.
    let some : is_some c.args.self.now.course.gathered.refusal ≡ true = grind (arith, c.refusal.ensures, c.is_some.ensures, c.if-is_some.true) in
    stays c.args.self.now (fed ++ c.args.piece.now) (fed-refused c.args.self.now fed f c.args.piece.now some) some

pub returns-in_err-read_ended-clause-put : goal.returns-in_err-read_ended-clause-put
returns-in_err-read_ended-clause-put g c =
    let going : is_some c.args.self.now.course.gathered.refusal ≡ false = grind (arith, c.refusal.ensures, c.is_some.ensures, c.if-is_some.false) in
    let whole : List ℕ = c.split_at.result.0.now in
    let rest : List ℕ = c.split_at.result.1.now in
    let parts : whole ++ rest ≡ c.args.piece.now = ap₂ (λ (x y : List ℕ). x ++ y) c.split_at.ensures.front c.split_at.ensures.back
    ∙ take-append-drop c.ended_len.result c.args.piece.now in
    let ends : EndsLine whole = subst EndsLine (sym c.split_at.ensures.front) c.ended_len.ensures.ended in
    let o : IsOpen rest = subst IsOpen (sym c.split_at.ensures.back) c.ended_len.ensures.rest in
    let (put, out, adds) = c.in_err-read_ended.ensures.put in (
      put,
      out,
      λ fed f.
          let same : reply c.args.self.now.options (fed ++ c.args.piece.now) ≡ reply c.args.self.now.options (fed ++ whole) =
          ap (reply c.args.self.now.options) (ap (λ (t : List ℕ). fed ++ t) (sym parts) ∙ sym (append_assoc fed whole rest))
          ∙ open-reply c.args.self.now fed whole rest f (none-from _ going) ends o in
          on-err c.from_residual.result _ _ c.from_residual.ensures.0
          (subst (λ (t : List ℕ). IsPrefixOf t (reply c.args.self.now.options fed ++ put)) (sym same) (adds fed f).1),
    )

pub returns-in_err-extend_from_slice-clause-put : goal.returns-in_err-extend_from_slice-clause-put
returns-in_err-extend_from_slice-clause-put g c =
    let going : is_some c.args.self.now.course.gathered.refusal ≡ false = grind (arith, c.refusal.ensures, c.is_some.ensures, c.if-is_some.false) in
    let whole : List ℕ = c.split_at.result.0.now in
    let rest : List ℕ = c.split_at.result.1.now in
    let parts : whole ++ rest ≡ c.args.piece.now = ap₂ (λ (x y : List ℕ). x ++ y) c.split_at.ensures.front c.split_at.ensures.back
    ∙ take-append-drop c.ended_len.result c.args.piece.now in
    let ends : EndsLine whole = subst EndsLine (sym c.split_at.ensures.front) c.ended_len.ensures.ended in
    let o : IsOpen rest = subst IsOpen (sym c.split_at.ensures.back) c.ended_len.ensures.rest in
    let (put, out, adds) = c.in_ok-read_ended.ensures.put in (
      put,
      out,
      λ fed f.
          let same : reply c.args.self.now.options (fed ++ c.args.piece.now) ≡ reply c.args.self.now.options (fed ++ whole) =
          ap (reply c.args.self.now.options) (ap (λ (t : List ℕ). fed ++ t) (sym parts) ∙ sym (append_assoc fed whole rest))
          ∙ open-reply c.args.self.now fed whole rest f (none-from _ going) ends o in
          on-err c.from_residual-in_err-extend_from_slice.result _ _ c.from_residual-in_err-extend_from_slice.ensures.0
          (prefix-same _ _ (same ∙ (adds fed f).0)),
    )

pub returns-clause-fed : goal.returns-clause-fed
returns-clause-fed g c = λ fed f.
    let whole : List ℕ = c.split_at.result.0.now in
    let rest : List ℕ = c.split_at.result.1.now in
    let parts : whole ++ rest ≡ c.args.piece.now = ap₂ (λ (x y : List ℕ). x ++ y) c.split_at.ensures.front c.split_at.ensures.back
    ∙ take-append-drop c.ended_len.result c.args.piece.now in
    let o : IsOpen rest = subst IsOpen (sym c.split_at.ensures.back) c.ended_len.ensures.rest in
    subst (WasFed _) (append_assoc fed whole rest ∙ ap (λ (t : List ℕ). fed ++ t) parts)
    (fed-open c.read_ended.new.self (fed ++ whole) (c.in_ok-read_ended.ensures.fed fed f) _ rest o refl refl c.in_ok-extend_from_slice.ensures.items)

pub returns-clause-put : goal.returns-clause-put
returns-clause-put g c =
    let going : is_some c.args.self.now.course.gathered.refusal ≡ false = grind (arith, c.refusal.ensures, c.is_some.ensures, c.if-is_some.false) in
    let whole : List ℕ = c.split_at.result.0.now in
    let rest : List ℕ = c.split_at.result.1.now in
    let parts : whole ++ rest ≡ c.args.piece.now = ap₂ (λ (x y : List ℕ). x ++ y) c.split_at.ensures.front c.split_at.ensures.back
    ∙ take-append-drop c.ended_len.result c.args.piece.now in
    let ends : EndsLine whole = subst EndsLine (sym c.split_at.ensures.front) c.ended_len.ensures.ended in
    let o : IsOpen rest = subst IsOpen (sym c.split_at.ensures.back) c.ended_len.ensures.rest in
    let (put, out, adds) = c.in_ok-read_ended.ensures.put in (
      put,
      out,
      λ fed f. (
        ap (reply c.args.self.now.options) (ap (λ (t : List ℕ). fed ++ t) (sym parts) ∙ sym (append_assoc fed whole rest))
            ∙ open-reply c.args.self.now fed whole rest f (none-from _ going) ends o ∙ (adds fed f).0,
        tt,
      ),
    )

pub returns-clause-ended : goal.returns-clause-ended
returns-clause-ended g c = λ e fed f.
    subst (λ (o : WatchOptions). StaysFrom (reply o) (reply_at_end o) (fed ++ c.args.piece.now)) c.in_ok-read_ended.ensures.same
    (stays _ (fed ++ c.args.piece.now) (returns-clause-fed g c fed f) (c.flow.ensures e))
