-- The reply to what was fed before is written first. Then the dialogue has ended, or it goes on.
use Rattle.std.proofs.Common.{◌≡◌, ◌++◌, ◌∙◌, List, ℕ, [], ap, arith, refl, subst, sym, take}
use Rattle.std.proofs.lemmas.List.{take_all}
use Rattle.kc_wire.specs.Events.{TellsMore, wrote}
use Rattle.kc_dialogue.specs.Endings.{HasAnswered, faults_at}
use Rattle.kc_dialogue.specs.Openings.{behind}
use Rattle.kc_dialogue.proofs.Behind.{HasAnswered-cut, HasAnswered-opened, IsGoing-opened, end_by-fault, faults-cut, fed-opened, prefix-opened}
use Rattle.kc_dialogue.proofs.Cuts.{TellsMore-nothing, TellsMore-trans}
use Rattle.kc_dialogue.proofs.Events.{reads_in-wrote}
use Rattle.kc_dialogue.proofs.Turning.{IsDialogue-nothing}
use Rattle.kc_dialogue.proofs.answer.answer_opened.Goals as goal

pub returns-in_default-clause-answered : goal.returns-in_default-clause-answered
returns-in_default-clause-answered g c = λ start opened. (
  [],
  TellsMore-nothing (g.W.Wire.history c.args.wire.now),
  record {
    dialogue = IsDialogue-nothing (behind (g.R.Replier.reply c.args.replier.now) start);
    written = (behind (g.R.Replier.reply c.args.replier.now) start [], refl);
  },
  λ e. absurd (cc),
  λ e. absurd (cc),
)

pub returns-in-Err-clause-answered : goal.returns-in-Err-clause-answered
returns-in-Err-clause-answered g c = λ start opened.
    let (n, few, told, all) = c.in-Err.ensures.history in
    let reply : List ℕ → List ℕ = behind (g.R.Replier.reply c.args.replier.now) start in
    let reply_at_end : List ℕ → List ℕ = behind (g.R.Replier.reply_at_end c.args.replier.now) start in
    let text : List ℕ = c.args.opening.now.text.items in (
      wrote (take n text),
      subst (λ (t : List ℕ). TellsMore (g.W.Wire.history c.args.wire.now) (g.W.Wire.history c.write_all.new.self) (wrote (take n t)))
          c.deref.ensures.value told,
      subst (HasAnswered reply reply_at_end (wrote (take n text))) (sym c.end_at.ensures)
          (HasAnswered-cut reply reply_at_end (take n text) c.in-Err.fault (prefix-opened (g.R.Replier.reply c.args.replier.now) start text n opened.said)),
      λ e. absurd ((end_by-fault c.in-Err.fault).0 (sym c.end_at.ensures ∙ e)),
      λ e. absurd ((end_by-fault c.in-Err.fault).1 (sym c.end_at.ensures ∙ e)),
    )

pub returns-in-Err-clause-cause : goal.returns-in-Err-clause-cause
returns-in-Err-clause-cause g c =
    c.in-Err.ensures.cause ∙ faults-cut c.in-Err.fault (g.W.Wire.faults c.args.wire.now)
    ∙ ap (faults_at (g.W.Wire.faults c.args.wire.now)) (sym c.end_at.ensures)

pub returns-in-Ended-clause-answered : goal.returns-in-Ended-clause-answered
returns-in-Ended-clause-answered g c = λ start opened.
    let (n, few, told, all) = c.in_default-write_all.ensures.history in
    let text : List ℕ = c.args.opening.now.text.items in
    let whole : take n c.deref.result.now ≡ text = take_all n c.deref.result.now (omega (arith, all)) ∙ c.deref.ensures.value in (
      wrote text,
      subst (λ (t : List ℕ). TellsMore (g.W.Wire.history c.args.wire.now) (g.W.Wire.history c.write_all.new.self) (wrote t)) whole told,
      HasAnswered-opened (g.R.Replier.reply c.args.replier.now) (g.R.Replier.reply_at_end c.args.replier.now) start text opened.said
          (opened.ended c.in-Ended.is),
      λ e. fed-opened (g.R.Replier.was_fed c.args.replier.now) start text opened.fed,
      λ e. absurd (cc),
    )

pub answer_turns-requires-clause-going : goal.answer_turns-requires-clause-going
answer_turns-requires-clause-going g c =
    let (start, opened) = c.requires in
    let text : List ℕ = c.args.opening.now.text.items in (
      start,
      wrote text,
      IsGoing-opened (g.R.Replier.reply c.args.replier.now) (g.R.Replier.was_fed c.args.replier.now) start text opened.fed opened.said,
      reads_in-wrote text,
    )

pub returns-clause-answered : goal.returns-clause-answered
returns-clause-answered g c = λ start opened.
    let (n, few, told, all) = c.in_default-write_all.ensures.history in
    let text : List ℕ = c.args.opening.now.text.items in
    let whole : take n c.deref.result.now ≡ text = take_all n c.deref.result.now (omega (arith, all)) ∙ c.deref.ensures.value in
    let (events, further, answered, ended, done) =
    c.answer_turns.ensures.answered start (wrote text)
    (IsGoing-opened (g.R.Replier.reply c.args.replier.now) (g.R.Replier.was_fed c.args.replier.now) start text opened.fed opened.said)
    (reads_in-wrote text) in (
      wrote text ++ events,
      TellsMore-trans (g.W.Wire.history c.args.wire.now) (g.W.Wire.history c.write_all.new.self) (g.W.Wire.history c.answer_turns.new.wire) (wrote text) events
          (subst (λ (t : List ℕ). TellsMore (g.W.Wire.history c.args.wire.now) (g.W.Wire.history c.write_all.new.self) (wrote t)) whole told)
          further,
      answered,
      ended,
      done,
    )
