-- When what happened on a wire is a dialogue of a reply: each answer as soon as its bytes were read, and none before.
use Rattle.std.specs.Prelude.{◌≡◌, ◌++◌, ◌∷◌, ℕ, Bool, true, false, List, [], if◌then◌else◌}
use Rattle.kc_wire.specs.Events.{WireEvent, Read, Wrote, read_in, written_in}

-- whether a read told the end of the input
abbrev pub has_ended : List WireEvent → Bool
has_ended [] = false
has_ended (Read [] ∷ events) = true
has_ended (Read (b ∷ bytes) ∷ events) = has_ended events
has_ended (Wrote bytes ∷ events) = has_ended events

-- what has to be written once this was read: the reply to the bytes, or to them as a whole where the input has ended
abbrev pub meant : (List ℕ → List ℕ) → (List ℕ → List ℕ) → List WireEvent → List ℕ
meant reply reply_at_end events = if has_ended events then reply_at_end (read_in events) else reply (read_in events)

-- all that was to be answered so far is answered, no more was written, and the input has not ended
pub record IsAnswered (reply : List ℕ → List ℕ) (events : List WireEvent) : Type 0 where
  pub answered : written_in events ≡ reply (read_in events)
  pub open_yet : has_ended events ≡ false

-- At every moment at which more input is asked for, just the reply to the bytes read so far was written.
abbrev pub IsDialogue : (List ℕ → List ℕ) → List WireEvent → Type 0
IsDialogue reply events = (before after : List WireEvent) (bytes : List ℕ) → events ≡ before ++ Read bytes ∷ after → IsAnswered reply before

-- what had happened when more input was asked for at some moment
abbrev pub AsksAfter : List WireEvent → List WireEvent → Type 0
AsksAfter events before = (after : List WireEvent) × (bytes : List ℕ) × (events ≡ before ++ Read bytes ∷ after)
