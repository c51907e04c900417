-- The text that is generated for a number. All that it says is drawn, one thing after another; the number is the first state.
use Rattle.std.specs.Prelude.{◌||◌, ℕ, suc, zero, Bool, true, false, List, [], ◌∷◌, ◌++◌, codes, nat_eq, slice_index_or, if◌then◌else◌}
use Rattle.std.specs.List.{flat_map, list_any}
use Rattle.kc_text.specs.declared.change.ChangeLine.{ChangeLine}
use Rattle.kc_text.specs.Meaning.{name_same}
use Rattle.kc_text.specs.Plain.{sign_of}
use Rattle.kc_report.specs.declared.sizes.TheConstants.{BATCHES, EDGE_LINES, IDS, TURNS}
use Rattle.kc_report.specs.TextDraws.{drawn, next_state}
use Rattle.kc_report.specs.Lines.{pair_line}

-- the two ids that this state draws
abbrev pub drawn_pair : ℕ → ℕ × ℕ
drawn_pair state = (drawn IDS state, drawn IDS (next_state state))

-- so many edges, drawn from this state on
unfoldable pub drawn_edges : ℕ → ℕ → List (ℕ × ℕ)
drawn_edges zero state = []
drawn_edges (suc more) state = drawn_pair state ∷ drawn_edges more (next_state (next_state state))

-- the state after so many drawn edges
unfoldable pub state_after_edges : ℕ → ℕ → ℕ
state_after_edges zero state = state
state_after_edges (suc more) state = state_after_edges more (next_state (next_state state))

-- whether a turn adds an edge, and else it removes one
abbrev pub adds : ℕ → Bool
adds state = nat_eq (drawn 2 state) 0

-- an add or a remove of the edge between these two ids
abbrev pub change_of : Bool → ℕ × ℕ → ChangeLine
change_of add pair = record { add = add; a = pair.0; b = pair.1 }

-- what a turn draws: an add of two ids, or a remove of the edge of one of the edge lines
abbrev pub drawn_change : List (ℕ × ℕ) → ℕ → ChangeLine
drawn_change edges state =
    if adds state then change_of true (drawn_pair (next_state state)) else change_of false (slice_index_or edges (drawn EDGE_LINES (next_state state)) (0, 0))

-- the state after a turn
abbrev pub state_after_turn : ℕ → ℕ
state_after_turn state = if adds state then next_state (next_state (next_state state)) else next_state (next_state state)

-- what a batch has written after one more turn: a loop is not written, nor a pair that is written in the batch already, in either direction
abbrev pub with_turn : List ChangeLine → ChangeLine → List ChangeLine
with_turn written change = if nat_eq change.a change.b || list_any (name_same change) written then written else written ++ change ∷ []

-- what a batch has written after so many more turns
unfoldable pub after_turns : List (ℕ × ℕ) → ℕ → ℕ → List ChangeLine → List ChangeLine
after_turns edges zero state written = written
after_turns edges (suc more) state written = after_turns edges more (state_after_turn state) (with_turn written (drawn_change edges state))

-- the state after so many turns
unfoldable pub state_after_turns : ℕ → ℕ → ℕ
state_after_turns zero state = state
state_after_turns (suc more) state = state_after_turns more (state_after_turn state)

-- the changes of a batch
abbrev pub drawn_batch : List (ℕ × ℕ) → ℕ → List ChangeLine
drawn_batch edges state = after_turns edges TURNS state []

-- so many batches, drawn from this state on
unfoldable pub drawn_batches : List (ℕ × ℕ) → ℕ → ℕ → List (List ChangeLine)
drawn_batches edges zero state = []
drawn_batches edges (suc more) state = drawn_batch edges state ∷ drawn_batches edges more (state_after_turns TURNS state)

-- the edges of the generated text
abbrev pub generated_edges : ℕ → List (ℕ × ℕ)
generated_edges number = drawn_edges EDGE_LINES number

-- the batches of the generated text
abbrev pub generated_batches : ℕ → List (List ChangeLine)
generated_batches number = drawn_batches (generated_edges number) BATCHES (state_after_edges EDGE_LINES number)

-- the sign and the two ids
abbrev pub change_line : ChangeLine → List ℕ
change_line change = sign_of change.add ∷ 32 ∷ pair_line (change.a, change.b)

-- a line `batch`, and a line for each change
abbrev pub batch_lines : List ChangeLine → List ℕ
batch_lines changes = codes "batch" ++ 10 ∷ flat_map change_line changes

-- a line for each edge, and the lines of each batch
abbrev pub generated : ℕ → List ℕ
generated number = flat_map pair_line (generated_edges number) ++ flat_map batch_lines (generated_batches number)
