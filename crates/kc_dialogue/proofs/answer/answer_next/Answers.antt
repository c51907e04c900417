-- A turn is a read and what was written behind it.
use Rattle.std.proofs.Common.{◌≡◌, ◌<◌, ◌++◌, ◌∷◌, List, [], ℕ, length, take, arith, append_assoc, subst}
use Rattle.kc_wire.specs.Events.{Read, TellsMore, read_in, wrote}
use Rattle.kc_dialogue.specs.Openings.{behind}
use Rattle.kc_dialogue.specs.Turns.{HasAdded, HasAddedAtEnd}
use Rattle.kc_dialogue.specs.declared.end.DialogueEnd.{DialogueEnd}
use Rattle.kc_dialogue.proofs.Cuts.{HasAnswered-end, HasTurned-piece, TellsMore-trans, ended-more, not_ended-at_end, reads-turn}
use Rattle.kc_dialogue.proofs.Behind.{HasAdded-behind, HasAddedAtEnd-behind}
use Rattle.kc_dialogue.proofs.answer.answer_next.Goals as goal

pub returns-in-Ok-eq0-clause-turned : goal.returns-in-Ok-eq0-clause-turned
returns-in-Ok-eq0-clause-turned g c = λ start before going.
    let (text, told, adds) = c.answer_end.ensures.added in
    let none : c.in-Ok-eq0.field-0 ≡ 0 = omega arith in
    let reply : List ℕ → List ℕ = behind (g.R.Replier.reply c.args.replier.now) start in
    let reply_at_end : List ℕ → List ℕ = behind (g.R.Replier.reply_at_end c.args.replier.now) start in
    let added = HasAddedAtEnd-behind (g.R.Replier.reply c.args.replier.now) (g.R.Replier.reply_at_end c.args.replier.now) start (read_in before) text
    c.answer_end.result (adds (start ++ read_in before) going.fed) in (
      Read [] ∷ wrote text,
      TellsMore-trans (g.W.Wire.history c.args.wire.now) (g.W.Wire.history c.read.new.self) (g.W.Wire.history c.answer_end.new.wire) (Read [] ∷ []) (wrote text)
          (subst (λ (n : ℕ). TellsMore (g.W.Wire.history c.args.wire.now) (g.W.Wire.history c.read.new.self) (Read (take n c.read.new.into) ∷ [])) none
          c.in-Ok-eq0.ensures.history)
          told,
      (
        HasAnswered-end reply reply_at_end before text c.answer_end.result going.dialogue going.answered added,
        λ e. absurd (not_ended-at_end reply reply_at_end (read_in before) text c.answer_end.result added e),
        λ e. ended-more (λ (read : List ℕ). g.R.Replier.has_ended c.answer_end.new.replier (start ++ read)) before text
            (c.answer_end.ensures.ended (start ++ read_in before) going.fed e),
      ),
      λ e. absurd (cc),
    )

pub returns-in-Ok-clause-turned : goal.returns-in-Ok-clause-turned
returns-in-Ok-clause-turned g c = λ start before going.
    let (text, told, adds) = c.answer_piece.ensures.added in
    let piece : List ℕ = take c.in-Ok.n c.read.new.into in
    let some : 0 < length piece = omega (arith, c.in-Ok.ensures.bound.1) in
    let reply : List ℕ → List ℕ = behind (g.R.Replier.reply c.args.replier.now) start in
    let reply_at_end : List ℕ → List ℕ = behind (g.R.Replier.reply_at_end c.args.replier.now) start in
    let joined = append_assoc start (read_in before) piece in (
      Read piece ∷ wrote text,
      TellsMore-trans (g.W.Wire.history c.args.wire.now) (g.W.Wire.history c.read.new.self) (g.W.Wire.history c.answer_piece.new.wire) (Read piece ∷ [])
          (wrote text) c.in-Ok.ensures.history told,
      HasTurned-piece reply reply_at_end (λ (read : List ℕ). g.R.Replier.was_fed c.args.replier.now (start ++ read))
          (λ (read : List ℕ). g.R.Replier.was_fed c.answer_piece.new.replier (start ++ read))
          (λ (read : List ℕ). g.R.Replier.has_ended c.answer_piece.new.replier (start ++ read)) before piece text c.answer_piece.result some going
          (HasAdded-behind (g.R.Replier.reply c.args.replier.now) (g.R.Replier.reply_at_end c.args.replier.now) start (read_in before) piece text
          c.answer_piece.result (adds (start ++ read_in before) going.fed))
          (λ e. subst (g.R.Replier.was_fed c.answer_piece.new.replier) joined (c.answer_piece.ensures.fed (start ++ read_in before) going.fed e))
          (λ e. subst (g.R.Replier.was_fed c.answer_piece.new.replier) joined
          (c.answer_piece.ensures.fed_at_end (start ++ read_in before) going.fed e)),
      λ _. reads-turn piece text,
    )

pub returns-in-Ok-eq0-clause-unread : goal.returns-in-Ok-eq0-clause-unread
returns-in-Ok-eq0-clause-unread g c = λ e.
    let (text, told, adds) = c.answer_end.ensures.added in
    let (fed, f) = c.requires.fed in
    let is : c.answer_end.result ≡ DialogueEnd.ReadFault = cc in
    absurd (subst (HasAddedAtEnd (g.R.Replier.reply c.args.replier.now) (g.R.Replier.reply_at_end c.args.replier.now) fed text) is (adds fed f))

pub returns-in-Ok-clause-unread : goal.returns-in-Ok-clause-unread
returns-in-Ok-clause-unread g c = λ e.
    let (text, told, adds) = c.answer_piece.ensures.added in
    let (fed, f) = c.requires.fed in
    absurd (subst (HasAdded (g.R.Replier.reply c.args.replier.now) (g.R.Replier.reply_at_end c.args.replier.now) fed (take c.in-Ok.n c.read.new.into) text) e
    (adds fed f))
