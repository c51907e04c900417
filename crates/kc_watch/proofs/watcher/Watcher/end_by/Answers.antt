-- What is open is read and ends, unless a line is refused.
use Rattle.std.proofs.Common.{◌≡◌, ◌++◌, [], ℕ, List, ap, refl, sym, ◌∙◌, append-nil, append_assoc, arith, true, false}
use Rattle.std.specs.Prelude.{is_some}
use Rattle.kc_watch.specs.Text.{reply, reply_at_end}
use Rattle.kc_watch.proofs.Fed.{end-answers, end-broken, end-keeps, end-refusal, end-refused, heard_by, refused-ended, stays}
use Rattle.std.proofs.lemmas.Bool.{true≢false}
use Rattle.std.proofs.lemmas.Result.{on_ok_weaker}
use Rattle.kc_watch.proofs.Lines.{on-err}
use Rattle.kc_lists.proofs.Results.{none-from}
use Rattle.kc_watch.proofs.watcher.Watcher.end_by.Goals as goal

pub returns-then-is_some : goal.returns-then-is_some
returns-then-is_some g c =
    let some : is_some c.args.self.now.course.gathered.refusal ≡ true = grind (arith, c.refusal.ensures, c.is_some.ensures, c.if-is_some.true) in
    record {
      settings = refl;
      ended = λ fed f. refused-ended c.args.self.now fed f some;
      put = (
        [],
        sym (append-nil c.args.out.now.items),
        λ fed f. (
          ap (reply_at_end c.args.self.now.options) (sym (append-nil fed)) ∙ (stays c.args.self.now fed f some []).1
              ∙ sym (append-nil (reply c.args.self.now.options fed)),
          tt,
        ),
      );
    }

pub returns-in_err-read : goal.returns-in_err-read
returns-in_err-read g c =
    let going : is_some c.args.self.now.course.gathered.refusal ≡ false = grind (arith, c.refusal.ensures, c.is_some.ensures, c.if-is_some.false) in
    let (put, out, adds) = c.in_err-read.ensures.put in
    record {
      settings = refl;
      ended = (on-err c.from_residual.result _ (Unit {0}) c.from_residual.ensures.0 tt).0;
      put = (
        put,
        out,
        λ fed f. on-err c.from_residual.result _ _ c.from_residual.ensures.0
            (end-broken c.args.self.now (none-from _ going) c.deref.result.now c.deref.ensures.value fed f put
            (adds (heard_by c.args.self.now fed f) f.stands).1),
      );
    }

pub returns-then-is_some-2 : goal.returns-then-is_some-2
returns-then-is_some-2 g c =
    let going : is_some c.args.self.now.course.gathered.refusal ≡ false = grind (arith, c.refusal.ensures, c.is_some.ensures, c.if-is_some.false) in
    let some : is_some c.read.new.self.gathered.refusal ≡ true = grind (arith, c.refusal-2.ensures, c.is_some-2.ensures, c.if-is_some-2.true) in
    let (put, out, adds) = c.in_ok-read.ensures.put in
    record {
      settings = refl;
      ended = λ fed f.
          let s = c.in_ok-read.ensures.stands (heard_by c.args.self.now fed f) f.stands in
          let told = end-refusal c.args.self.now (none-from _ going) c.deref.result.now c.deref.ensures.value fed f c.read.new.self.gathered c.read.new.self
          s refl in
          (told.0, told.1, λ none. absurd (true≢false (sym some ∙ ap is_some none)));
      put = (
        put,
        out,
        λ fed f. (
          end-refused c.args.self.now (none-from _ going) c.deref.result.now c.deref.ensures.value fed f c.read.new.self put
              (c.in_ok-read.ensures.stands (heard_by c.args.self.now fed f) f.stands) some (adds (heard_by c.args.self.now fed f) f.stands).0,
          tt,
        ),
      );
    }

pub end_open-requires-clause-going : goal.end_open-requires-clause-going
end_open-requires-clause-going g c =
    let going : is_some c.read.new.self.gathered.refusal ≡ false = grind (arith, c.refusal-2.ensures, c.is_some-2.ensures, c.if-is_some-2.false) in
    none-from _ going

pub end_open-requires-clause-stands : goal.end_open-requires-clause-stands
end_open-requires-clause-stands g c =
    let (fed, f) = c.requires in
    (_, c.in_ok-read.ensures.stands (heard_by c.args.self.now fed f) f.stands)

pub returns : goal.returns
returns g c =
    let before : is_some c.args.self.now.course.gathered.refusal ≡ false = grind (arith, c.refusal.ensures, c.is_some.ensures, c.if-is_some.false) in
    let going : is_some c.read.new.self.gathered.refusal ≡ false = grind (arith, c.refusal-2.ensures, c.is_some-2.ensures, c.if-is_some-2.false) in
    let (put, out, adds) = c.in_ok-read.ensures.put in
    let (more, out', adds') = c.end_open.ensures.put in
    record {
      settings = refl;
      ended = on_ok_weaker c.end_open.result (λ keeps fed f.
          let s = c.in_ok-read.ensures.stands (heard_by c.args.self.now fed f) f.stands in
          let none = none-from _ before in
          let is = c.deref.ensures.value in
          let told = end-refusal c.args.self.now none c.deref.result.now is fed f c.end_open.new.self.gathered c.read.new.self s
          c.end_open.ensures.gathered in (
            told.0,
            told.1,
            λ _. end-keeps c.args.self.now none c.deref.result.now is fed f c.end_open.new.self c.read.new.self s going c.end_open.ensures.gathered (keeps _ s),
          )) c.end_open.ensures.keeps;
      put = (
        put ++ more,
        out' ∙ ap (λ (t : List ℕ). t ++ more) out ∙ append_assoc c.args.out.now.items put more,
        λ fed f.
            let s = c.in_ok-read.ensures.stands (heard_by c.args.self.now fed f) f.stands in
            end-answers c.args.self.now (none-from _ before) c.deref.result.now c.deref.ensures.value fed f c.end_open.result
            c.read.new.self
            put more s going (adds (heard_by c.args.self.now fed f) f.stands).0 (adds' _ s),
      );
    }
