-- What a log has made of a table: its words, the list that its notes stand for, the entries, and what the last section has left open.
use Rattle.std.specs.Prelude.{ℕ, zero, suc, ◌+◌, ◌*◌, ◌-◌, List, [], ◌∷◌, ◌++◌, Bool, slice_index, slice_set, nat_lt, nat_le, ◌&&◌, if◌then◌else◌, ◌==◌}
use Rattle.kc_lists.specs.Lists.{without, right_after}
use Rattle.kc_words.specs.NoteWord.{note_of, index_of}
use Rattle.kc_words.specs.Order.{Labels, labels}
use Rattle.kc_words.specs.declared.note.NoteWord.{NoteWord}
use Rattle.kc_words.specs.declared.note.NoteWord.TheVariants.{Nothing, Enter, Put, Take}
use Rattle.kc_words.specs.declared.shape.Shape.{Shape}
use Rattle.kc_table.specs.declared.entry.Entry.{Entry}
use Rattle.kc_table.specs.declared.view.Event.{Event}

-- the words, the list, what is announced, the entries of this table, and the vertices that wait to be sealed
pub record TableState : Type 0 where
  pub words : List ℕ
  pub list : List ℕ
  -- what the last store announced
  pub note : NoteWord
  pub entries : List Entry
  -- the vertices that the last section has put and whose words it has not stored since
  pub unsealed : List ℕ

-- whether the pair of x is less than that of y
abbrev pub is_below : Labels → ℕ → ℕ → Bool
is_below a x y = if a.top (a.group x) == a.top (a.group y) then nat_lt (a.bottom x) (a.bottom y) else nat_lt (a.top (a.group x)) (a.top (a.group y))

-- the list with x before the first that is greater
abbrev pub placed : Labels → ℕ → List ℕ → List ℕ
placed a x [] = x ∷ []
placed a x (y ∷ ys) = if is_below a x y then x ∷ y ∷ ys else y ∷ placed a x ys

-- of the items below a number, those that have a group, in the order of their pairs
abbrev pub listed : Labels → ℕ → List ℕ
listed a zero = []
listed a (suc x) = if a.group x == 0 then listed a x else placed a x (listed a x)

-- what the opening words make of a table
abbrev pub opened : Shape → List ℕ → TableState
opened shape opening = record { words = opening; list = listed (labels shape.items opening) shape.items; note = Nothing; entries = []; unsealed = [] }

-- an Enter note is an entry, of the update whose index was stored before it
abbrev pub entered : ℕ → NoteWord → List Entry → List Entry
entered index Nothing entries = entries
entered index (Enter add u v) entries = entries ++ record { index = index; add = add; u = u; v = v } ∷ []
entered index (Put x p) entries = entries
entered index (Take x) entries = entries

-- the index of an update that stands in the word of the note
abbrev pub index_in : TableState → ℕ
index_in s = index_of (slice_index s.words 0)

-- an Enter note begins a section, in which nothing was put yet
abbrev pub unsealed_from : NoteWord → List ℕ → List ℕ
unsealed_from Nothing unsealed = unsealed
unsealed_from (Enter add u v) unsealed = []
unsealed_from (Put x p) unsealed = unsealed
unsealed_from (Take x) unsealed = unsealed

-- The store that follows a Put or a Take note, to the word of its item, moves the item to right after `p`, or takes it out.
abbrev pub moved : NoteWord → ℕ → List ℕ → List ℕ
moved Nothing word list = list
moved (Enter add u v) word list = list
moved (Put x p) word list = if word == 1 + x then right_after x p (without x list) else list
moved (Take x) word list = if word == 1 + x then without x list else list

-- a vertex that was put is open until its word is stored
abbrev pub put_in : Shape → NoteWord → ℕ → List ℕ → List ℕ
put_in shape Nothing word unsealed = unsealed
put_in shape (Enter add u v) word unsealed = unsealed
put_in shape (Put x p) word unsealed = if word == 1 + x && nat_lt x shape.fixed then x ∷ unsealed else unsealed
put_in shape (Take x) word unsealed = unsealed

-- the words of the vertices begin behind those of the groups
abbrev pub first_vertex : Shape → ℕ
first_vertex shape = 2 * shape.items + 2

-- how many words a table has: a note, one for each item and each group, and one for each vertex
abbrev pub word_count : Shape → ℕ
word_count shape = first_vertex shape + shape.fixed

-- the vertex whose word is stored is sealed
abbrev pub sealed : Shape → ℕ → List ℕ → List ℕ
sealed shape word unsealed = if nat_le (first_vertex shape) word then without (word - first_vertex shape) unsealed else unsealed

-- one store
abbrev pub after_store : Shape → TableState → Event → TableState
after_store shape s e =
    if e.word == 0 then record {
      words = slice_set s.words e.word e.value;
      list = s.list;
      note = note_of e.value;
      entries = entered (index_in s) (note_of e.value) s.entries;
      unsealed = unsealed_from (note_of e.value) s.unsealed;
    } else record {
      words = slice_set s.words e.word e.value;
      list = moved s.note e.word s.list;
      note = Nothing;
      entries = s.entries;
      unsealed = put_in shape s.note e.word (sealed shape e.word s.unsealed);
    }

-- all stores of a log, oldest first
abbrev pub after_stores : Shape → TableState → List Event → TableState
after_stores shape s [] = s
after_stores shape s (e ∷ es) = after_stores shape (after_store shape s e) es

-- what a log has made of the table
unfoldable pub state_of : Shape → List ℕ → List Event → TableState
state_of shape opening log = after_stores shape (opened shape opening) log
