-- What a state that was read tells.
use Rattle.std.specs.Prelude.{◌≡◌, ◌≤◌, ℕ, List, length}
use Rattle.kc_words.specs.declared.layout.TheConstants.{VERTICES}
use Rattle.kc_state.specs.OneState.{IsKeptState}
use Rattle.kc_state.specs.Texts.{KeptParts, state_text}
use Rattle.kc_state.specs.declared.kept_state.KeptState.{KeptState}

-- the state as its text tells it
abbrev pub parts_of_state : KeptState → KeptParts
parts_of_state state = record { batches = state.batches; ids = state.ids; ranked = state.lawful }

-- A text is that of a state as it is kept, with no more ids than a graph may have vertices that is kept.
pub record IsStateText (text : List ℕ) (s : KeptParts) : Type 0 where
  pub is : text ≡ state_text s
  pub kept : IsKeptState s
  pub few : length s.ids ≤ VERTICES
