-- A dialogue goes on with a read and with what is written after it.
use Rattle.std.proofs.Common.{◌≡◌, ◌<◌, ◌++◌, ◌∷◌, ℕ, List, [], length, false, true, refl, sym, ap, ◌∙◌, inl, inr, subst, append-nil, arith}
use Rattle.kc_wire.specs.Events.{WireEvent, Read, read_in, written_in, wrote}
use Rattle.kc_dialogue.specs.Dialogues.{IsAnswered, IsDialogue, has_ended, meant}
use Rattle.kc_dialogue.specs.Replies.{IsPrefixOf}
use Rattle.kc_dialogue.specs.Turns.{IsGoing}
use Rattle.kc_dialogue.proofs.Events.{read_in-append, written_in-append, has_ended-append, read_in-wrote, written_in-wrote, has_ended-wrote}
use Rattle.kc_dialogue.proofs.Events.{at_seam, no_read-wrote}

-- a dialogue in which nothing has happened
pub IsDialogue-nothing : (reply : List ℕ → List ℕ) → IsDialogue reply []
IsDialogue-nothing reply [] after bytes h = absurd (cc)
IsDialogue-nothing reply (b ∷ before) after bytes h = absurd (cc)

-- nothing has happened, and that is right where nothing is said first
pub IsAnswered-nothing : (reply : List ℕ → List ℕ) → reply [] ≡ [] → IsAnswered reply []
IsAnswered-nothing reply silent = record { answered = sym silent; open_yet = refl }

-- where all is answered, a dialogue goes on with a read and a text behind it
pub IsDialogue-more : (reply : List ℕ → List ℕ) (before : List WireEvent) (piece text : List ℕ) → IsDialogue reply before → IsAnswered reply before
    → IsDialogue reply (before ++ Read piece ∷ wrote text)
IsDialogue-more reply before piece text dialogue answered front after bytes h =
    elim (at_seam before (Read piece ∷ wrote text) front after (Read bytes) h) [
      | inl (rest, is) ↦ dialogue front rest bytes is
      | inr ([], is, split) ↦ subst (IsAnswered reply) (sym (is ∙ append-nil before)) answered
      | inr (e ∷ more, is, split) ↦ absurd (no_read-wrote text more after bytes (cc))
    ]

-- what was read with one more read and a text behind it
pub read_in-more : (before : List WireEvent) (piece text : List ℕ) → read_in (before ++ Read piece ∷ wrote text) ≡ read_in before ++ piece
read_in-more before piece text =
    read_in-append before (Read piece ∷ wrote text)
    ∙ ap (λ (t : List ℕ). read_in before ++ (piece ++ t)) (read_in-wrote text) ∙ ap (λ (t : List ℕ). read_in before ++ t) (append-nil piece)

-- what was written with one more read and a text behind it
pub written_in-more : (before : List WireEvent) (piece text : List ℕ) → written_in (before ++ Read piece ∷ wrote text) ≡ written_in before ++ text
written_in-more before piece text =
    written_in-append before (Read piece ∷ wrote text) ∙ ap (λ (t : List ℕ). written_in before ++ t) (written_in-wrote text)

-- the input has not ended with a read of some bytes
pub has_ended-more : (before : List WireEvent) (piece text : List ℕ) → 0 < length piece → has_ended before ≡ false
    → has_ended (before ++ Read piece ∷ wrote text) ≡ false
has_ended-more before [] text some h = absurd (omega arith)
has_ended-more before (b ∷ piece) text some h = has_ended-append before (Read (b ∷ piece) ∷ wrote text) h ∙ has_ended-wrote text

-- the input has ended with a read of none
pub has_ended-end : (before : List WireEvent) (text : List ℕ) → has_ended before ≡ false → has_ended (before ++ Read [] ∷ wrote text) ≡ true
has_ended-end before text h = has_ended-append before (Read [] ∷ wrote text) h

-- all is answered again where the text is what the piece adds to the reply
pub IsAnswered-more : (reply : List ℕ → List ℕ) (before : List WireEvent) (piece text : List ℕ) → 0 < length piece → IsAnswered reply before
    → reply (read_in before ++ piece) ≡ reply (read_in before) ++ text → IsAnswered reply (before ++ Read piece ∷ wrote text)
IsAnswered-more reply before piece text some answered added = record {
  answered = written_in-more before piece text ∙ ap (λ (t : List ℕ). t ++ text) answered.answered ∙ sym added ∙ ap reply (sym (read_in-more before piece text));
  open_yet = has_ended-more before piece text some answered.open_yet;
}

-- a dialogue goes on after a turn
pub IsGoing-more : (reply : List ℕ → List ℕ) (Before After : List ℕ → Type 0) (before : List WireEvent) (piece text : List ℕ) → 0 < length piece
    → IsGoing reply Before before → reply (read_in before ++ piece) ≡ reply (read_in before) ++ text → After (read_in before ++ piece)
    → IsGoing reply After (before ++ Read piece ∷ wrote text)
IsGoing-more reply Before After before piece text some going added fed = record {
  dialogue = IsDialogue-more reply before piece text going.dialogue going.answered;
  answered = IsAnswered-more reply before piece text some going.answered added;
  fed = subst After (sym (read_in-more before piece text)) fed;
}

-- the reply to a piece is begun by what was written, where that is so of the text behind the read
pub prefix-more : (reply reply_at_end : List ℕ → List ℕ) (before : List WireEvent) (piece text : List ℕ) → 0 < length piece → IsAnswered reply before
    → IsPrefixOf (reply (read_in before ++ piece)) (reply (read_in before) ++ text)
    → IsPrefixOf (meant reply reply_at_end (before ++ Read piece ∷ wrote text)) (written_in (before ++ Read piece ∷ wrote text))
prefix-more reply reply_at_end before piece text some answered (rest, is) =
    rw (has_ended-more before piece text some answered.open_yet) (
      rest,
      ap reply (read_in-more before piece text) ∙ is
          ∙ ap (λ (t : List ℕ). (t ++ text) ++ rest) (sym answered.answered) ∙ ap (λ (t : List ℕ). t ++ rest) (sym (written_in-more before piece text)),
    )

-- the reply to the whole input is begun by what was written, where that is so of the text behind the end
pub prefix-end : (reply reply_at_end : List ℕ → List ℕ) (before : List WireEvent) (text : List ℕ) → IsAnswered reply before
    → IsPrefixOf (reply_at_end (read_in before)) (reply (read_in before) ++ text)
    → IsPrefixOf (meant reply reply_at_end (before ++ Read [] ∷ wrote text)) (written_in (before ++ Read [] ∷ wrote text))
prefix-end reply reply_at_end before text answered (rest, is) =
    rw (has_ended-end before text answered.open_yet) (
      rest,
      ap reply_at_end (read_in-more before [] text ∙ append-nil (read_in before)) ∙ is
          ∙ ap (λ (t : List ℕ). (t ++ text) ++ rest) (sym answered.answered) ∙ ap (λ (t : List ℕ). t ++ rest) (sym (written_in-more before [] text)),
    )

-- the whole reply was written, where the text behind the end is what is wanting
pub whole-end : (reply reply_at_end : List ℕ → List ℕ) (before : List WireEvent) (text : List ℕ) → IsAnswered reply before
    → reply_at_end (read_in before) ≡ reply (read_in before) ++ text
    → written_in (before ++ Read [] ∷ wrote text) ≡ reply_at_end (read_in (before ++ Read [] ∷ wrote text))
whole-end reply reply_at_end before text answered is =
    written_in-more before [] text ∙ ap (λ (t : List ℕ). t ++ text) answered.answered ∙ sym is
    ∙ ap reply_at_end (sym (read_in-more before [] text ∙ append-nil (read_in before)))
