-- Nothing has happened at first. Each turn goes on with the dialogue so far, or ends it.
use Rattle.std.proofs.Common.{◌≡◌, ◌++◌, ◌∙◌, List, ℕ, [], append-nil, arith, refl, subst, sym}
use Rattle.kc_wire.specs.Events.{WireEvent, read_in}
use Rattle.kc_dialogue.specs.Endings.{reads_in}
use Rattle.kc_dialogue.specs.Openings.{behind}
use Rattle.kc_dialogue.specs.Turns.{IsGoing}
use Rattle.kc_dialogue.proofs.Cuts.{TellsMore-nothing}
use Rattle.kc_dialogue.proofs.Held.{held-end, held-on}
use Rattle.kc_dialogue.proofs.answer.answer_turns.Goals as goal

pub turns-init : goal.turns-init
turns-init g c = record {
  held = λ start first going none. (
    [],
    TellsMore-nothing (g.W.Wire.history c.args.wire.now),
    subst (λ (e : List WireEvent). IsGoing (behind (g.R.Replier.reply c.args.replier.now) start)
        (λ (read : List ℕ). g.R.Replier.was_fed c.args.replier.now (start ++ read)) e) (sym (append-nil first)) going,
    subst (λ (e : List WireEvent). reads_in e ≡ 0) (sym (append-nil first)) none,
  );
  same = refl;
  same_at_end = refl;
  settings = refl;
  faultless = refl;
  room = c.requires.room;
}

pub answer_next-requires-clause-fed : goal.answer_next-requires-clause-fed
answer_next-requires-clause-fed g c =
    let (start, first, going, none) = c.requires.going in
    let (events, told, goes, reads) = c.turns.invariant.held start first going none in
    (start ++ read_in (first ++ events), goes.fed)

pub returns-in-Some-clause-answered : goal.returns-in-Some-clause-answered
returns-in-Some-clause-answered g c = λ start first going none.
    let (before, told, goes, reads) = c.turns.invariant.held start first going none in
    held-end start first (g.R.Replier.reply c.args.replier.now) (g.R.Replier.reply c.turns.replier) (g.R.Replier.reply_at_end c.args.replier.now)
    (g.R.Replier.reply_at_end c.turns.replier) (λ (read : List ℕ). g.R.Replier.was_fed c.turns.replier (start ++ read))
    (λ (read : List ℕ). g.R.Replier.was_fed c.answer_next.new.replier (start ++ read))
    (λ (read : List ℕ). g.R.Replier.has_ended c.answer_next.new.replier (start ++ read)) (g.W.Wire.history c.args.wire.now) (g.W.Wire.history c.turns.wire)
    (g.W.Wire.history c.answer_next.new.wire) before c.in-Some.end c.turns.invariant.same c.turns.invariant.same_at_end told goes
    (c.in-Some.ensures.turned start)

pub turns-preserved : goal.turns-preserved
turns-preserved g c =
    record {
      held = λ start first going none.
          let (before, told, goes, reads) = c.turns.invariant.held start first going none in
          held-on start first (g.R.Replier.reply c.args.replier.now) (g.R.Replier.reply c.turns.replier) (g.R.Replier.reply_at_end c.args.replier.now)
          (g.R.Replier.reply_at_end c.turns.replier) (λ (read : List ℕ). g.R.Replier.was_fed c.turns.replier (start ++ read))
          (λ (read : List ℕ). g.R.Replier.was_fed c.answer_next.new.replier (start ++ read))
          (λ (read : List ℕ). g.R.Replier.has_ended c.answer_next.new.replier (start ++ read)) (g.W.Wire.history c.args.wire.now)
          (g.W.Wire.history c.turns.wire) (g.W.Wire.history c.answer_next.new.wire) before c.turns.counter c.turns.invariant.same
          c.turns.invariant.same_at_end told goes reads (c.in-None.ensures.turned start);
      same = c.in-None.ensures.same refl ∙ c.turns.invariant.same;
      same_at_end = c.in-None.ensures.same_at_end refl ∙ c.turns.invariant.same_at_end;
      settings = c.in-None.ensures.settings ∙ c.turns.invariant.settings;
      faultless = c.in-None.ensures.cause ∙ c.turns.invariant.faultless;
      room = omega (arith, c.answer_next.auto.room, c.turns.invariant.room);
    }

pub returns-clause-answered : goal.returns-clause-answered
returns-clause-answered g c = λ start first going none.
    let (events, told, goes, reads) = c.turns.invariant.held start first going none in (
      events,
      told,
      record { dialogue = goes.dialogue; written = (goes.answered, omega (arith, reads)) },
      λ e. absurd (cc),
      λ e. absurd (cc),
    )
