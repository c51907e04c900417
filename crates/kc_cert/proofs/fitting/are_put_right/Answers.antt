-- The place of `w` is behind those that rise and before this turn's just where `w` doesn't rise and no shift from here on moves it.
use Rattle.std.proofs.Common.{ℕ, List, get_or, length, refl, sym, ◌∙◌, subst, inl, inr, arith, true≢false}
use Rattle.std.proofs.lemmas.Bool.{cases_eq, false≢true}
use Rattle.kc_graph.specs.Lawful.{Ranked}
use Rattle.kc_cert.proofs.Turns.{IsPutRight, StaysFrom, put_right-at, put_right-all, put_right-to, put_right-from}
use Rattle.kc_cert.proofs.fitting.are_put_right.Goals as goal
use Rattle.kc_cert.proofs.fitting.are_put_right.Goals.{then-not-of_level-via-then-not-of_level, then-not-of_level-via-else-not-of_level+then-not-stays}

pub returns-then-not-of_level : goal.returns-then-not-of_level
returns-then-not-of_level g c = (
  λ f. absurd (false≢true f),
  λ h.
      let s : Ranked = g.S.State.state c.args.state.now in
      let rise : List ℕ = c.args.rise.now in
      let shifts : List (ℕ × ℕ) = c.args.shifts.now in
      let turn : ℕ = c.loop-turn.turn in
      let right : IsPutRight s c.args.level rise shifts turn = put_right-at s c.args.level rise shifts turn c.loop-turn-test.true h in
      let at = c.get.ensures ∙ c.requires.places.each (get_or shifts turn (0, 0)).1 in
      let stays : StaysFrom (length rise) turn c.get.result =
      subst (StaysFrom (length rise) turn) (sym at) (put_right-from s c.args.level rise shifts turn right) in
      elim c.then-not-of_level.branch [
        | then-not-of_level-via-then-not-of_level w ↦ absurd (true≢false (sym (c.is_of_level-of_level.ensures.1 right.of_level) ∙ w.if-not-of_level.true))
        | then-not-of_level-via-else-not-of_level+then-not-stays w ↦ absurd (true≢false (sym (c.stays_from-stays.ensures.1 stays) ∙ w.if-not-stays.true))
      ],
)

pub loop-turn-preserved : goal.loop-turn-preserved
loop-turn-preserved g c = λ k l. elim (cases_eq k c.loop-turn.turn) [
  | inl e ↦
      let s : Ranked = g.S.State.state c.args.state.now in
      let rise : List ℕ = c.args.rise.now in
      let shifts : List (ℕ × ℕ) = c.args.shifts.now in
      let turn : ℕ = c.loop-turn.turn in
      let at = c.get.ensures ∙ c.requires.places.each (get_or shifts turn (0, 0)).1 in
      subst (IsPutRight s c.args.level rise shifts) (sym e)
      (put_right-to s c.args.level rise shifts turn c.requires.once (c.is_of_level-of_level.ensures.0 c.if-not-of_level.false)
      (subst (StaysFrom (length rise) turn) at (c.stays_from-stays.ensures.0 c.if-not-stays.false)))
  | inr ne ↦ c.loop-turn.invariant k (omega arith)
]

pub returns : goal.returns
returns g c = (
  λ _. put_right-all (g.S.State.state c.args.state.now) c.args.level c.args.rise.now c.args.shifts.now (λ k l. c.loop-turn.invariant k (omega (arith, l))),
  λ _. refl,
)
