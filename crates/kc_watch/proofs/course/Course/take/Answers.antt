-- A line that tells is answered as that, and one that asks as a question.
use Rattle.std.proofs.Common.{◌≡◌, ◌++◌, [], ℕ, List, sym, subst, append-nil, arith, true}
use Rattle.std.specs.Prelude.{OnErr, OnOk, is_some}
use Rattle.kc_dialogue.specs.Replies.{IsPrefixOf}
use Rattle.kc_stream.specs.Hearing.{Heard, hear}
use Rattle.kc_stream.specs.declared.stream_line.StreamLine.{StreamLine}
use Rattle.kc_watch.specs.Text.{answer_behind}
use Rattle.kc_watch.specs.Watching.{StandsAt}
use Rattle.kc_watch.proofs.Lines.{refused-put}
use Rattle.kc_watch.proofs.course.Course.take.Goals as goal

pub returns-then-is_some-clause-put : goal.returns-then-is_some-clause-put
returns-then-is_some-clause-put g c =
    let some : is_some c.args.self.now.gathered.refusal ≡ true = grind (arith, c.refusal.ensures, c.is_some.ensures, c.if-is_some.true) in (
      [],
      sym (append-nil c.args.out.now.items),
      λ heard s. (sym (refused-put c.args.options c.args.self.now heard c.args.line s some), tt),
    )

pub returns-in-Tells-clause-stands : goal.returns-in-Tells-clause-stands
returns-in-Tells-clause-stands g c =
    subst (λ (l : StreamLine). OnOk c.take_told.result ((heard : Heard) → StandsAt c.args.self.now heard
    → StandsAt c.take_told.new.self (hear c.args.options.bad_lines heard l)))
    (sym c.in-Tells.is) c.take_told.ensures.stands

pub returns-in-Tells-clause-put : goal.returns-in-Tells-clause-put
returns-in-Tells-clause-put g c =
    subst (λ (l : StreamLine). (put : List ℕ) × (c.take_told.new.out.items ≡ c.args.out.now.items ++ put) × ((heard : Heard) → StandsAt c.args.self.now heard
    → OnOk c.take_told.result (put ≡ answer_behind c.args.options heard l)
    × OnErr c.take_told.result (IsPrefixOf (answer_behind c.args.options heard l) put)))
    (sym c.in-Tells.is) c.take_told.ensures.put

pub returns-in-Asks-clause-stands : goal.returns-in-Asks-clause-stands
returns-in-Asks-clause-stands g c =
    subst (λ (l : StreamLine). OnOk c.take_question.result ((heard : Heard) → StandsAt c.args.self.now heard
    → StandsAt c.take_question.new.self (hear c.args.options.bad_lines heard l))) (sym c.in-Asks.is) c.take_question.ensures.stands

pub returns-in-Asks-clause-put : goal.returns-in-Asks-clause-put
returns-in-Asks-clause-put g c =
    subst (λ (l : StreamLine). (put : List ℕ) × (c.take_question.new.out.items ≡ c.args.out.now.items ++ put)
    × ((heard : Heard) → StandsAt c.args.self.now heard
    → OnOk c.take_question.result (put ≡ answer_behind c.args.options heard l)
    × OnErr c.take_question.result (IsPrefixOf (answer_behind c.args.options heard l) put)))
    (sym c.in-Asks.is) c.take_question.ensures.put
