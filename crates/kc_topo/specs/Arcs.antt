-- Arcs, walks along them, and lists in which each arc leads to a later vertex.
use Rattle.std.specs.Prelude.{◌≡◌, ℕ, zero, suc, Bool, true, false, List, [], ◌∷◌, ◌++◌, ◌==◌, ◌&&◌, ◌||◌, if◌then◌else◌, nat_lt, map}
use Rattle.kc_words.specs.declared.note.NoteWord.{NoteWord}
use Rattle.kc_words.specs.declared.note.NoteWord.TheVariants.{Enter}
use Rattle.kc_table.specs.declared.entry.Entry.{Entry}
use Rattle.kc_table.specs.declared.view.Event.{Event}
use Rattle.kc_table.specs.Log.{TableName}
use Rattle.kc_table.specs.TableState.{state_of}
use Rattle.kc_order.specs.Standing.{StandsBefore}

-- The arc that an entry stands for. The entry names the lesser end first; it adds where the arc leads to the greater end.
abbrev pub arc_of : Entry → ℕ × ℕ
arc_of e = if e.add then (e.u, e.v) else (e.v, e.u)

-- the entry of the arc from a to b
abbrev pub entry_of : ℕ → ℕ → Entry
entry_of a b = if nat_lt a b then record { index = 0; add = true; u = a; v = b } else record { index = 0; add = false; u = b; v = a }

-- the note by which it is entered
abbrev pub note_of_arc : ℕ → ℕ → NoteWord
note_of_arc a b = if nat_lt a b then Enter true a b else Enter false b a

-- the arcs that a log has entered, oldest first
abbrev pub arcs_after : TableName → List Event → List (ℕ × ℕ)
arcs_after table log = map arc_of (state_of table.shape table.opening log).entries

-- whether the one from a to b is among them
abbrev pub has_arc : List (ℕ × ℕ) → ℕ → ℕ → Bool
has_arc [] a b = false
has_arc (arc ∷ arcs) a b = (a == arc.0 && b == arc.1) || has_arc arcs a b

-- no arc stands twice
abbrev pub StandOnce : List (ℕ × ℕ) → Type 0
StandOnce [] = Unit {0}
StandOnce (arc ∷ arcs) = (has_arc arcs arc.0 arc.1 ≡ false) × StandOnce arcs

-- from v on, each step is an arc, and the last leads to a
abbrev pub LeadsTo : List (ℕ × ℕ) → ℕ → ℕ → List ℕ → Type 0
LeadsTo arcs v a [] = v ≡ a
LeadsTo arcs v a (w ∷ ws) = (has_arc arcs v w ≡ true) × LeadsTo arcs w a ws

-- a walk that begins with b and ends with a, each step of which is an arc
abbrev pub IsWalk : List (ℕ × ℕ) → ℕ → ℕ → List ℕ → Type 0
IsWalk arcs b a [] = ⊥
IsWalk arcs b a (v ∷ vs) = (v ≡ b) × LeadsTo arcs v a vs

-- a walk leads from b to a; each vertex reaches itself
abbrev pub Reaches : List (ℕ × ℕ) → ℕ → ℕ → Type 0
Reaches arcs b a = (walk : List ℕ) × IsWalk arcs b a walk

-- each arc leads to a vertex that stands later
abbrev pub IsTopological : List (ℕ × ℕ) → List ℕ → Type 0
IsTopological arcs list = (a b : ℕ) → has_arc arcs a b ≡ true → StandsBefore a b list

-- the numbers below n, ascending
abbrev pub ascending : ℕ → List ℕ
ascending zero = []
ascending (suc n) = ascending n ++ n ∷ []
