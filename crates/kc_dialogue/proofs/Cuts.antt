-- What a write that failed took of what the replier put, and how a turn ends then.
use Rattle.std.proofs.Common.{◌≡◌, ◌<◌, ◌++◌, ◌∷◌, ℕ, List, [], Option, None, Some, Result, Ok, Err, OnErr, OnOk, length, take, drop, refl, sym, ap, ◌∙◌}
use Rattle.std.proofs.Common.{append_assoc, append-nil, arith, subst, take-append-drop}
use Rattle.kc_wire.specs.Events.{WireEvent, Read, TellsMore, read_in, wrote}
use Rattle.kc_wire.specs.declared.faults.WriteFault.{WriteFault}
use Rattle.kc_wire.specs.declared.faults.WriteFault.TheVariants as write
use Rattle.kc_dialogue.specs.Dialogues.{IsAnswered, IsDialogue}
use Rattle.kc_dialogue.specs.Endings.{HasAnswered, reads_in}
use Rattle.kc_dialogue.proofs.Events.{reads_in-wrote}
use Rattle.kc_dialogue.specs.Replies.{IsPrefixOf, StaysFrom}
use Rattle.kc_dialogue.specs.Turns.{HasAdded, HasAddedAtEnd, HasTurned, IsGoing, end_by}
use Rattle.kc_dialogue.specs.declared.end.DialogueEnd.{DialogueEnd}
use Rattle.kc_dialogue.specs.declared.end.DialogueEnd.TheVariants as end
use Rattle.kc_dialogue.proofs.Turning.{IsAnswered-more, IsDialogue-more, IsGoing-more, has_ended-end, prefix-end, prefix-more, read_in-more, whole-end}

-- a history that is told goes on with nothing
pub TellsMore-nothing : (a : Option (List WireEvent)) → TellsMore a a []
TellsMore-nothing None = tt
TellsMore-nothing (Some xs) = sym (append-nil xs)

-- a history goes on with two stretches, one after the other
pub TellsMore-trans : (a b c : Option (List WireEvent)) (xs ys : List WireEvent) → TellsMore a b xs → TellsMore b c ys → TellsMore a c (xs ++ ys)
TellsMore-trans None b c xs ys p q = tt
TellsMore-trans (Some u) None c xs ys p q = absurd p
TellsMore-trans (Some u) (Some v) None xs ys p q = absurd q
TellsMore-trans (Some u) (Some v) (Some w) xs ys p q = q ∙ ap (λ (t : List WireEvent). t ++ ys) p ∙ append_assoc u xs ys

-- a front of what was put still begins the reply
pub prefix-cut : (all front put : List ℕ) (n : ℕ) → IsPrefixOf all (front ++ put) → IsPrefixOf all (front ++ take n put)
prefix-cut all front put n (rest, is) = (
  drop n put ++ rest,
  is
      ∙ ap (λ (t : List ℕ). (front ++ t) ++ rest) (sym (take-append-drop n put))
      ∙ ap (λ (t : List ℕ). t ++ rest) (sym (append_assoc front (take n put) (drop n put)))
      ∙ append_assoc (front ++ take n put) (drop n put) rest,
)

-- whether all of a reply was put or memory ended, a front of what was put begins it
pub prefix-either : {T E : Type 0} (r : Result T E) (all front put : List ℕ) (n : ℕ)
    → OnOk r (all ≡ front ++ put) × OnErr r (IsPrefixOf all (front ++ put)) → IsPrefixOf all (front ++ take n put)
prefix-either (Ok value) all front put n h = prefix-cut all front put n ([], h.0 ∙ sym (append-nil (front ++ put)))
prefix-either (Err fault) all front put n h = prefix-cut all front put n h.1

-- a write that failed after a piece: its text begins what the piece adds
pub HasAdded-fault : (reply reply_at_end : List ℕ → List ℕ) (fed piece text : List ℕ) (fault : WriteFault)
    → IsPrefixOf (reply (fed ++ piece)) (reply fed ++ text) → HasAdded reply reply_at_end fed piece text (Some (end_by fault))
HasAdded-fault reply reply_at_end fed piece text write.ReaderGone h = h
HasAdded-fault reply reply_at_end fed piece text write.Failed h = h

-- a write that failed after the end of the input: its text begins what the end adds
pub HasAddedAtEnd-fault : (reply reply_at_end : List ℕ → List ℕ) (fed text : List ℕ) (fault : WriteFault)
    → IsPrefixOf (reply_at_end fed) (reply fed ++ text) → HasAddedAtEnd reply reply_at_end fed text (end_by fault)
HasAddedAtEnd-fault reply reply_at_end fed text write.ReaderGone h = h
HasAddedAtEnd-fault reply reply_at_end fed text write.Failed h = h

-- how a dialogue has ended with a read of nothing and the text behind it
pub HasAnswered-end : (reply reply_at_end : List ℕ → List ℕ) (before : List WireEvent) (text : List ℕ) (how : DialogueEnd) → IsDialogue reply before
    → IsAnswered reply before → HasAddedAtEnd reply reply_at_end (read_in before) text how
    → HasAnswered reply reply_at_end (before ++ Read [] ∷ wrote text) how
HasAnswered-end reply reply_at_end before text end.Done dialogue answered h = record {
  dialogue = IsDialogue-more reply before [] text dialogue answered;
  written = (has_ended-end before text answered.open_yet, whole-end reply reply_at_end before text answered h);
}
HasAnswered-end reply reply_at_end before text end.Ended dialogue answered h = absurd h
HasAnswered-end reply reply_at_end before text end.ReadFault dialogue answered h = absurd h
HasAnswered-end reply reply_at_end before text end.Exhausted dialogue answered h = absurd h
HasAnswered-end reply reply_at_end before text end.ReaderGone dialogue answered h = record {
  dialogue = IsDialogue-more reply before [] text dialogue answered;
  written = prefix-end reply reply_at_end before text answered h;
}
HasAnswered-end reply reply_at_end before text end.WriteFault dialogue answered h = record {
  dialogue = IsDialogue-more reply before [] text dialogue answered;
  written = prefix-end reply reply_at_end before text answered h;
}
HasAnswered-end reply reply_at_end before text end.NoMemory dialogue answered h = record {
  dialogue = IsDialogue-more reply before [] text dialogue answered;
  written = prefix-end reply reply_at_end before text answered h;
}

-- nothing is added with an end that only the end of the input brings
pub not_ended-at_end : (reply reply_at_end : List ℕ → List ℕ) (fed text : List ℕ) (how : DialogueEnd) → HasAddedAtEnd reply reply_at_end fed text how
    → how ≡ end.Ended → ⊥
not_ended-at_end reply reply_at_end fed text end.Ended h e = h
not_ended-at_end reply reply_at_end fed text end.Done h e = cc
not_ended-at_end reply reply_at_end fed text end.ReadFault h e = cc
not_ended-at_end reply reply_at_end fed text end.Exhausted h e = cc
not_ended-at_end reply reply_at_end fed text end.ReaderGone h e = cc
not_ended-at_end reply reply_at_end fed text end.WriteFault h e = cc
not_ended-at_end reply reply_at_end fed text end.NoMemory h e = cc

-- the replier was told the end of what was read, with the read of nothing that tells it
pub ended-more : (HasEnded : List ℕ → Type 0) (before : List WireEvent) (text : List ℕ) → HasEnded (read_in before)
    → HasEnded (read_in (before ++ Read [] ∷ wrote text))
ended-more HasEnded before text h = subst HasEnded (sym (read_in-more before [] text ∙ append-nil (read_in before))) h

-- the bytes that the replier was fed are those that were read, with one read more
StaysFrom-more : (reply reply_at_end : List ℕ → List ℕ) (before : List WireEvent) (piece text : List ℕ)
    → StaysFrom reply reply_at_end (read_in before ++ piece) → StaysFrom reply reply_at_end (read_in (before ++ Read piece ∷ wrote text))
StaysFrom-more reply reply_at_end before piece text h = rw (read_in-more before piece text) h

-- how a dialogue goes on or has ended with a read of a piece and the text behind it
pub HasTurned-piece : (reply reply_at_end : List ℕ → List ℕ) (Before After HasEnded : List ℕ → Type 0) (before : List WireEvent) (piece text : List ℕ)
    (how : Option DialogueEnd) → 0 < length piece → IsGoing reply Before before → HasAdded reply reply_at_end (read_in before) piece text how
    → (how ≡ None → After (read_in before ++ piece)) → (how ≡ Some end.Ended → After (read_in before ++ piece))
    → HasTurned reply reply_at_end After HasEnded (before ++ Read piece ∷ wrote text) how
HasTurned-piece reply reply_at_end Before After HasEnded before piece text None some going h goes ended =
    IsGoing-more reply Before After before piece text some going h (goes refl)
HasTurned-piece reply reply_at_end Before After HasEnded before piece text (Some end.Ended) some going h goes ended = (
  record {
    dialogue = IsDialogue-more reply before piece text going.dialogue going.answered;
    written = (IsAnswered-more reply before piece text some going.answered h.0, StaysFrom-more reply reply_at_end before piece text h.1);
  },
  λ _. rw (read_in-more before piece text) (ended refl),
  λ e. absurd (cc),
)
HasTurned-piece reply reply_at_end Before After HasEnded before piece text (Some end.ReaderGone) some going h goes ended = (
  record {
    dialogue = IsDialogue-more reply before piece text going.dialogue going.answered;
    written = prefix-more reply reply_at_end before piece text some going.answered h;
  },
  λ e. absurd (cc),
  λ e. absurd (cc),
)
HasTurned-piece reply reply_at_end Before After HasEnded before piece text (Some end.WriteFault) some going h goes ended = (
  record {
    dialogue = IsDialogue-more reply before piece text going.dialogue going.answered;
    written = prefix-more reply reply_at_end before piece text some going.answered h;
  },
  λ e. absurd (cc),
  λ e. absurd (cc),
)
HasTurned-piece reply reply_at_end Before After HasEnded before piece text (Some end.NoMemory) some going h goes ended = (
  record {
    dialogue = IsDialogue-more reply before piece text going.dialogue going.answered;
    written = prefix-more reply reply_at_end before piece text some going.answered h;
  },
  λ e. absurd (cc),
  λ e. absurd (cc),
)
HasTurned-piece reply reply_at_end Before After HasEnded before piece text (Some end.Done) some going h goes ended = absurd h
HasTurned-piece reply reply_at_end Before After HasEnded before piece text (Some end.ReadFault) some going h goes ended = absurd h
HasTurned-piece reply reply_at_end Before After HasEnded before piece text (Some end.Exhausted) some going h goes ended = absurd h

-- a turn's events are one read
pub reads-turn : (piece text : List ℕ) → reads_in (Read piece ∷ wrote text) ≡ 1
reads-turn piece text = omega (arith, reads_in-wrote text)

-- what is put into an empty text is all of it
pub put-alone : (told out cleared put : List ℕ) → told ≡ out → out ≡ cleared ++ put → cleared ≡ [] → told ≡ put
put-alone told out cleared put is grown none = is ∙ grown ∙ ap (λ (t : List ℕ). t ++ put) none
