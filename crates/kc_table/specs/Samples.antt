-- A small table with written-out logs, by which the laws show what the definitions mean.
use Rattle.std.specs.Prelude.{ℕ, ◌*◌, ◌/◌, List, [], ◌∷◌, ◌++◌, true, false, refl}
use Rattle.std.specs.FinSet as set
use Rattle.std.proofs.lemmas.Bool.{leb-true}
use Rattle.kc_graph.specs.SimpleGraph.{SimpleGraph}
use Rattle.kc_words.specs.ItemWord.{item_word}
use Rattle.kc_words.specs.GroupWord.{group_word}
use Rattle.kc_words.specs.VertexWord.{vertex_word}
use Rattle.kc_words.specs.NoteWord.{note_word}
use Rattle.kc_words.specs.declared.note.NoteWord.{NoteWord}
use Rattle.kc_words.specs.declared.note.NoteWord.TheVariants.{Enter, Put, Take}
use Rattle.kc_words.specs.declared.layout.TheConstants.{ITEMS, LAST_VERSION, BOTTOM_ROOM, TOP_ROOM}
use Rattle.kc_words.specs.declared.shape.Shape.{Shape}
use Rattle.kc_table.specs.declared.view.Event.{Event}
use Rattle.kc_table.specs.Log.{event}

-- Three items, of which item 0 is a vertex, and one entry before this table. The words are the note, those of the items 0 to 2, of the
-- groups 1 to 4, and of vertex 0.
abbrev pub shape : Shape
shape = record {
  items = 3;
  fixed = 1;
  base = 1;
  version = 0;
  some_items = leb-true 1 3 refl;
  few_items = leb-true 3 ITEMS refl;
  fixed_in = leb-true 1 3 refl;
  version_in = leb-true 0 LAST_VERSION refl;
}

-- an item's word: its version, its group and its bottom label
abbrev pub item : ℕ → ℕ → ℕ → ℕ
item version group bottom = item_word record { version = version; group = group; bottom = bottom }

-- a group's word: its version and its top label
abbrev pub group : ℕ → ℕ → ℕ
group version top = group_word record { version = version; top = top }

-- a vertex's word: its stamp and its core number
abbrev pub vertex : ℕ → ℕ → ℕ
vertex stamp core = vertex_word record { stamp = stamp; core = core }

-- the list 0, 1: both in group 1, and item 2 is out
abbrev pub opening : List ℕ
opening = 0 ∷ item 0 1 10 ∷ item 0 1 20 ∷ item 0 0 0 ∷ group 0 100 ∷ group 0 0 ∷ group 0 0 ∷ group 0 0 ∷ vertex 0 0 ∷ []

-- the store of a note
abbrev pub note : NoteWord → Event
note n = event 0 (note_word n)

-- the store of the index that the next entry has
abbrev pub next_index : ℕ → Event
next_index index = event 0 index

-- Logs that are legal. ---------------------------------------------------------------------------

-- item 2 is put right after item 0
abbrev pub one_put : List Event
one_put = note (Put 2 0) ∷ event 3 (item 1 1 15) ∷ []

-- item 2 is put right after item 0, and then item 1 is taken
abbrev pub put_and_take : List Event
put_and_take = one_put ++ note (Take 1) ∷ event 2 (item 1 0 0) ∷ []

-- an edge 0 1 is entered, and vertex 0 is put right after item 1
abbrev pub open_section : List Event
open_section = next_index 7 ∷ note (Enter true 0 1) ∷ note (Put 0 1) ∷ event 1 (item 1 1 30) ∷ []

-- the open section, and then the word of vertex 0 is stored
abbrev pub sealed_section : List Event
sealed_section = open_section ++ event 8 (vertex 2 1) ∷ []

-- the sealed section, and then the edge is taken out again, and nothing moves
abbrev pub two_entries : List Event
two_entries = sealed_section ++ next_index 8 ∷ note (Enter false 0 1) ∷ []

-- A log that is not legal. -------------------------------------------------------------------------

-- an edge is entered and vertex 0 is not put; then its word is stored, as if it had been
abbrev pub sealed_unmoved : List Event
sealed_unmoved = next_index 7 ∷ note (Enter true 0 1) ∷ event 8 (vertex 2 0) ∷ []

-- Graphs of two vertices. --------------------------------------------------------------------------

-- two vertices, and no edge
abbrev pub no_edges : SimpleGraph
no_edges = record { size = 2; edges = set.empty }

-- two vertices, and the edge between them
abbrev pub one_edge : SimpleGraph
one_edge = record { size = 2; edges = set.from_list ((0, 1) ∷ []) }

-- Opening words that break one condition each. ------------------------------------------------------

-- one word too many
abbrev pub longer_opening : List ℕ
longer_opening = opening ++ 0 ∷ []

-- the index of an entry, in place of no note
abbrev pub noted_opening : List ℕ
noted_opening = 1 ∷ item 0 1 10 ∷ item 0 1 20 ∷ item 0 0 0 ∷ group 0 100 ∷ group 0 0 ∷ group 0 0 ∷ group 0 0 ∷ vertex 0 0 ∷ []

-- the version of item 1 is ahead
abbrev pub ahead_opening : List ℕ
ahead_opening = 0 ∷ item 0 1 10 ∷ item 1 1 20 ∷ item 0 0 0 ∷ group 0 100 ∷ group 0 0 ∷ group 0 0 ∷ group 0 0 ∷ vertex 0 0 ∷ []

-- the vertex is out of the list
abbrev pub missing_opening : List ℕ
missing_opening = 0 ∷ item 0 0 0 ∷ item 0 1 20 ∷ item 0 0 0 ∷ group 0 100 ∷ group 0 0 ∷ group 0 0 ∷ group 0 0 ∷ vertex 0 0 ∷ []

-- two items have one pair
abbrev pub tied_opening : List ℕ
tied_opening = 0 ∷ item 0 1 20 ∷ item 0 1 20 ∷ item 0 0 0 ∷ group 0 100 ∷ group 0 0 ∷ group 0 0 ∷ group 0 0 ∷ vertex 0 0 ∷ []

-- the vertex has a stamp of an entry to come
abbrev pub stamped_opening : List ℕ
stamped_opening = 0 ∷ item 0 1 10 ∷ item 0 1 20 ∷ item 0 0 0 ∷ group 0 100 ∷ group 0 0 ∷ group 0 0 ∷ group 0 0 ∷ vertex 2 0 ∷ []

-- A table of two items, which tests open too. --------------------------------------------------------

-- two items, of which item 0 is the list
abbrev pub pair_shape : Shape
pair_shape = record {
  items = 2;
  fixed = 0;
  base = 0;
  version = 0;
  some_items = leb-true 1 2 refl;
  few_items = leb-true 2 ITEMS refl;
  fixed_in = leb-true 0 2 refl;
  version_in = leb-true 0 LAST_VERSION refl;
}

-- the opening words of the table of two items: item 0 is in group 1, both in the middle of their rooms, and item 1 is in no group
abbrev pub pair_opening : List ℕ
pair_opening = 0 ∷ item 0 1 (BOTTOM_ROOM / 2) ∷ item 0 0 0 ∷ group 0 (TOP_ROOM / 2) ∷ group 0 0 ∷ group 0 0 ∷ []

-- item 1 is put right after item 0, in the middle of the room behind it
abbrev pub pair_put : List Event
pair_put = note (Put 1 0) ∷ event 2 (item 1 1 (BOTTOM_ROOM / 4 * 3)) ∷ []
