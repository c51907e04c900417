-- When a log is legal: what may be stored next, and what holds after each store.
use Rattle.std.specs.Prelude.{◌≡◌, ◌≢◌, ◌≤◌, ◌<◌, ◌+◌, ◌^◌, ℕ, List, [], ◌∷◌, length, slice_index, true}
use mathlib.Core.List.{IsPrefix}
use Rattle.kc_lists.specs.Lists.{member}
use Rattle.kc_words.specs.ItemWord.{item_of}
use Rattle.kc_words.specs.VertexWord.{vertex_of}
use Rattle.kc_words.specs.NoteWord.{note_of}
use Rattle.kc_words.specs.Order as order
use Rattle.kc_words.specs.declared.note.NoteWord.{NoteWord}
use Rattle.kc_words.specs.declared.note.NoteWord.TheVariants.{Nothing, Enter, Put, Take}
use Rattle.kc_words.specs.declared.shape.Shape.{Shape}
use Rattle.kc_table.specs.declared.view.Event.{Event}
use Rattle.kc_table.specs.Log.{TableName}
use Rattle.kc_table.specs.TableState.{TableState, opened, after_store, first_vertex, word_count}

-- the number of the last entry, over all tables of a run
abbrev pub last_entry : Shape → TableState → ℕ
last_entry shape s = shape.base + length s.entries

-- the stamp in the word of vertex v
abbrev pub stamp_in : Shape → TableState → ℕ → ℕ
stamp_in shape s v = (vertex_of (slice_index s.words (first_vertex shape + v))).stamp

-- the version in an item's or a group's word
abbrev pub version_of : ℕ → ℕ
version_of value = (item_of value).version

-- the word is an item's or a group's: these have versions
abbrev pub IsVersioned : Shape → ℕ → Type 0
IsVersioned shape word = (1 ≤ word) × (word < first_vertex shape)

-- After a Put or a Take note its item's word is stored.
abbrev pub FollowsNote : NoteWord → ℕ → Type 0
FollowsNote Nothing word = Unit {0}
FollowsNote (Enter add u v) word = Unit {0}
FollowsNote (Put x p) word = word ≡ 1 + x
FollowsNote (Take x) word = word ≡ 1 + x

-- each vertex that the last section has put was sealed in it, and nothing is announced
abbrev pub IsClosed : TableState → Type 0
IsClosed s = (s.unsealed ≡ []) × ((word : ℕ) → FollowsNote s.note word)

-- A vertex is put inside a section alone, and only once: while its stamp is below the section's number.
pub record MayPut (shape : Shape) (s : TableState) (x : ℕ) : Type 0 where
  pub inside : 0 < length s.entries
  pub once : stamp_in shape s x < last_entry shape s

-- A note of a put names an item of the table and another that is in the list; that of a take names an item of the list that is no vertex.
-- A section ends where nothing is left open.
abbrev pub MayNote : Shape → TableState → NoteWord → Type 0
MayNote shape s Nothing = Unit {0}
MayNote shape s (Enter add u v) = s.unsealed ≡ []
MayNote shape s (Put x p) = (x < shape.items) × (member p s.list ≡ true) × (x ≢ p) × (x < shape.fixed → MayPut shape s x)
MayNote shape s (Take x) = (member x s.list ≡ true) × (shape.fixed ≤ x)

-- The version of a word that has one rises by one. It has `VERSION_BITS` of 64 bits, so it never passes `LAST_VERSION`.
abbrev pub IsNewer : ℕ → ℕ → Type 0
IsNewer old new = version_of new ≡ version_of old + 1

-- A vertex word is stored inside a section alone, and only where the section has put the vertex and not stored the word since. Its
-- stamp is the section's number, which is greater than the one before.
pub record Seals (shape : Shape) (s : TableState) (v value : ℕ) : Type 0 where
  pub inside : 0 < length s.entries
  pub stamp : (vertex_of value).stamp ≡ last_entry shape s
  pub later : stamp_in shape s v < (vertex_of value).stamp
  pub put : member v s.unsealed ≡ true

-- what may be stored next
pub record MayStore (shape : Shape) (s : TableState) (e : Event) : Type 0 where
  pub there : e.word < word_count shape
  pub fits : e.value < 2 ^ 64
  pub follows : FollowsNote s.note e.word
  pub note : e.word ≡ 0 → MayNote shape s (note_of e.value)
  pub fresh : IsVersioned shape e.word → IsNewer (slice_index s.words e.word) e.value
  pub seals : (v : ℕ) → e.word ≡ first_vertex shape + v → Seals shape s v e.value

-- what holds after each store, and at the opening
pub record StateHolds (shape : Shape) (s : TableState) : Type 0 where
  pub ordered : order.Ordered shape.items s.words s.list
  pub stamps : (v : ℕ) → v < shape.fixed → stamp_in shape s v ≤ last_entry shape s

-- What the opening words are: as many as the shape has, no note, the shape's version in each item's and group's word, and each vertex is
-- in the list.
pub record IsTableOpening (shape : Shape) (opening : List ℕ) : Type 0 where
  pub one_each : length opening ≡ word_count shape
  pub no_note : slice_index opening 0 ≡ 0
  pub versions : (word : ℕ) → IsVersioned shape word → version_of (slice_index opening word) ≡ shape.version
  pub vertices : (v : ℕ) → v < shape.fixed → member v (opened shape opening).list ≡ true
  pub holds : StateHolds shape (opened shape opening)

-- from this state on, each store of the log is one that may follow, and the state after it holds
abbrev pub LegalFrom : Shape → TableState → List Event → Type 0
LegalFrom shape s [] = Unit {0}
LegalFrom shape s (e ∷ es) = MayStore shape s e × StateHolds shape (after_store shape s e) × LegalFrom shape (after_store shape s e) es

-- The table was opened with such words, and along the log each store was one that might follow, after which it held.
unfoldable pub Legal : Shape → List ℕ → List Event → Type 0
Legal shape opening log = IsTableOpening shape opening × LegalFrom shape (opened shape opening) log

-- What a call leaves of what was seen: it is of this table as before, it begins with the old log, and all of it is legal.
pub record Continues (name : TableName) (old : List Event) (now : TableName) (new : List Event) : Type 0 where
  pub table : now ≡ name
  pub longer : IsPrefix old new
  pub legal : Legal name.shape name.opening new
