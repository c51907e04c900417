-- What happens on a wire, both directions in one order.
use Rattle.std.specs.Prelude.{◌≡◌, ◌≤◌, ℕ, List, [], ◌∷◌, ◌++◌, Option, None, Some, Result, MatchResult, OnOk, length, take}

-- An event: a read that gave these bytes, none at the end of the input, or a write that took these bytes and flushed them.
pub data WireEvent : Type 0 where
  Read : List ℕ → WireEvent
  Wrote : List ℕ → WireEvent

-- what happened where a write took these bytes: nothing where there are none
abbrev pub wrote : List ℕ → List WireEvent
wrote [] = []
wrote (b ∷ bytes) = Wrote (b ∷ bytes) ∷ []

-- all bytes that were read, in their order
abbrev pub read_in : List WireEvent → List ℕ
read_in [] = []
read_in (Read bytes ∷ events) = bytes ++ read_in events
read_in (Wrote bytes ∷ events) = read_in events

-- all bytes that were taken, in their order
abbrev pub written_in : List WireEvent → List ℕ
written_in [] = []
written_in (Read bytes ∷ events) = written_in events
written_in (Wrote bytes ∷ events) = bytes ++ written_in events

-- a history, where the wire tells it, goes on with these events
abbrev pub TellsMore : Option (List WireEvent) → Option (List WireEvent) → List WireEvent → Type 0
TellsMore None after events = Unit {0}
TellsMore (Some before) None events = ⊥
TellsMore (Some before) (Some after) events = after ≡ before ++ events

-- a read is an event where it gave bytes or the end, and none where it failed
abbrev pub TellsRead : {E : Type 0} → Option (List WireEvent) → Option (List WireEvent) → Result ℕ E → List ℕ → Type 0
TellsRead before after result into = MatchResult result (λ n. TellsMore before after (Read (take n into) ∷ [])) (λ _. TellsMore before after [])

-- a write took a front of the text, and all of it where it did not fail
abbrev pub TellsWrite : {T E : Type 0} → Option (List WireEvent) → Option (List WireEvent) → Result T E → List ℕ → Type 0
TellsWrite before after result text = (n : ℕ) × (n ≤ length text) × TellsMore before after (wrote (take n text)) × OnOk result (n ≡ length text)
