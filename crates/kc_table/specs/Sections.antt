-- What the sections of a log have put, and the stamps that tell of it.
use Rattle.std.specs.Prelude.{ℕ, ◌+◌, List, [], ◌∷◌, ◌++◌, if◌then◌else◌, ◌==◌}
use Rattle.kc_words.specs.declared.note.NoteWord.{NoteWord}
use Rattle.kc_words.specs.declared.note.NoteWord.TheVariants.{Nothing, Enter, Put, Take}
use Rattle.kc_words.specs.declared.shape.Shape.{Shape}
use Rattle.kc_table.specs.declared.view.Event.{Event}
use Rattle.kc_table.specs.TableState.{TableState, opened, after_store, state_of}
use Rattle.kc_table.specs.Legal.{last_entry, stamp_in}

-- the number of the log's last entry, over all tables of a run: that of its last section
abbrev pub number_after : Shape → List ℕ → List Event → ℕ
number_after shape opening log = last_entry shape (state_of shape opening log)

-- the stamp in the word of vertex v after the log
abbrev pub stamp_after : Shape → List ℕ → List Event → ℕ → ℕ
stamp_after shape opening log v = stamp_in shape (state_of shape opening log) v

-- the item that a store to this word puts, where the store before it announced so
abbrev pub item_put : NoteWord → ℕ → List ℕ
item_put Nothing word = []
item_put (Enter add u v) word = []
item_put (Put x p) word = if word == 1 + x then x ∷ [] else []
item_put (Take x) word = []

-- what these stores, made from a state on, put while the last entry has this number
abbrev pub puts_from : Shape → TableState → List Event → ℕ → List ℕ
puts_from shape s [] number = []
puts_from shape s (e ∷ es) number =
    (if last_entry shape s == number then item_put s.note e.word else []) ++ puts_from shape (after_store shape s e) es number

-- what the section of the entry with this number has put: the items in turn, each as often as it was put
unfoldable pub puts_in : Shape → List ℕ → List Event → ℕ → List ℕ
puts_in shape opening log number = puts_from shape (opened shape opening) log number
