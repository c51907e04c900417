-- What a piece adds is what is echoed of it alone, and nothing behind a full stop.
use Rattle.std.proofs.Common.{◌≡◌, ◌++◌, [], true, sym, ◌∙◌, append-nil}
use Rattle.kc_base_tests.specs.Echoes.{has_stop, said}
use Rattle.kc_base_tests.proofs.Stops.{StaysFrom-stopped, begun-more, has_stop-first, has_stop-second, said-more, said-stopped}
use Rattle.kc_base_tests.proofs.echo.EchoReplier.feed.Goals as goal

pub returns-then-self-clause-put : goal.returns-then-self-clause-put
returns-then-self-clause-put c = (
  [],
  sym (append-nil c.args.out.now.items),
  λ fed h. (said-stopped fed c.args.piece.now (sym h ∙ c.if-self.true) ∙ sym (append-nil (said fed)), tt),
)

pub returns-then-self-clause-ended : goal.returns-then-self-clause-ended
returns-then-self-clause-ended c = λ _ fed h.
    StaysFrom-stopped (fed ++ c.args.piece.now) (has_stop-first fed c.args.piece.now (sym h ∙ c.if-self.true))

pub returns-in-Ok-true-clause-put : goal.returns-in-Ok-true-clause-put
returns-in-Ok-true-clause-put c = (said c.args.piece.now, c.in-Ok-true.ensures.put, λ fed h. (said-more fed c.args.piece.now (sym h ∙ c.if-self.false), tt))

pub returns-in-Ok-true-clause-ended : goal.returns-in-Ok-true-clause-ended
returns-in-Ok-true-clause-ended c = λ _ fed h.
    let stops : has_stop c.args.piece.now ≡ true = sym c.in-Ok-true.ensures.stops ∙ c.in-Ok-true.field-0-test in
    StaysFrom-stopped (fed ++ c.args.piece.now) (has_stop-second fed c.args.piece.now (sym h ∙ c.if-self.false) ∙ stops)

pub returns-in-Ok-false-clause-put : goal.returns-in-Ok-false-clause-put
returns-in-Ok-false-clause-put c = (said c.args.piece.now, c.in-Ok-false.ensures.put, λ fed h. (said-more fed c.args.piece.now (sym h ∙ c.if-self.false), tt))

pub returns-in-Err-clause-put : goal.returns-in-Err-clause-put
returns-in-Err-clause-put c = (
  [],
  c.in-Err.ensures.none ∙ sym (append-nil c.args.out.now.items),
  λ fed h. (tt, begun-more fed c.args.piece.now (sym h ∙ c.if-self.false)),
)
