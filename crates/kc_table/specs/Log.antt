-- A table's log: the stores of its one writer, oldest first.
use Rattle.std.specs.Prelude.{refl, ℕ, List, [], ◌∷◌, slice_index, slice_set}
use Rattle.std.specs.FinSet as set
use Rattle.std.proofs.lemmas.Bool.{leb-true}
use Rattle.atomic_table.specs.Seated.{TableId}
use Rattle.kc_graph.specs.SimpleGraph.{SimpleGraph}
use Rattle.kc_words.specs.declared.layout.TheConstants.{ITEMS, LAST_VERSION}
use Rattle.kc_words.specs.declared.shape.Shape.{Shape}
use Rattle.kc_table.specs.declared.view.Event.{Event}

-- which table it is, its shape and its opening words
pub record TableName : Type 0 where
  pub id : TableId
  pub shape : Shape
  pub opening : List ℕ

-- A table with what its graph was when it was opened: the edges, and for each vertex the number of the last entry that changed its edges.
pub record Opened : Type 0 where
  pub table : TableName
  pub edges : SimpleGraph
  pub stamps : List ℕ

-- a table that was opened with these edges and these stamps of its vertices
abbrev pub opened_with : TableName → SimpleGraph → List ℕ → Opened
opened_with table edges stamps = record { table = table; edges = edges; stamps = stamps }

-- a prefix of a table's log
pub record Seen : Type 0 where
  pub table : TableName
  pub log : List Event

-- what a pass has seen, and how many loads and how many splits it has made
pub record PassSeen : Type 0 where
  pub table : TableName
  pub log : List Event
  pub loads : ℕ
  pub splits : ℕ

-- the store of a value to a word
abbrev pub event : ℕ → ℕ → Event
event word value = record { word = word; value = value }

-- the words after these stores
abbrev pub words_after : List ℕ → List Event → List ℕ
words_after ws [] = ws
words_after ws (e ∷ es) = words_after (slice_set ws e.word e.value) es

-- the last value stored to a word, else its opening value
abbrev pub value_at : List ℕ → List Event → ℕ → ℕ
value_at opening log w = slice_index (words_after opening log) w

-- the shape of no table
abbrev pub no_shape : Shape
no_shape = record {
  items = 1;
  fixed = 0;
  base = 0;
  version = 0;
  some_items = leb-true 1 1 refl;
  few_items = leb-true 1 ITEMS refl;
  fixed_in = leb-true 0 1 refl;
  version_in = leb-true 0 LAST_VERSION refl;
}

-- the name of no table
abbrev pub no_table : TableName
no_table = record { id = record { words = 0; slots = 0; views_name = 0; atom = 0; block = 0; offset = 0; slot_names = [] }; shape = no_shape; opening = [] }

-- the graph of no table
abbrev pub no_graph : SimpleGraph
no_graph = record { size = 0; edges = set.empty }
