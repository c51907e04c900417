-- What contracts see of levels: the table and its log, the vertices in order, and where each stands.
use Rattle.std.specs.Prelude.{◌≡◌, ◌≢◌, ◌≤◌, ◌<◌, ◌+◌, ◌*◌, ◌^◌, ◌⊎◌, ⊤, ℕ, Bool, true, false, List, [], ◌∷◌, ◌++◌, length, slice_index}
use Rattle.kc_lists.specs.Lists.{member, without}
use Rattle.kc_words.specs.VertexWord.{vertex_of, vertex_word}
use Rattle.kc_words.specs.NoteWord.{note_word}
use Rattle.kc_words.specs.declared.layout.TheConstants.{STAMP_BITS, VERTICES}
use Rattle.kc_words.specs.declared.note.NoteWord.TheVariants.{Enter}
use Rattle.kc_graph.specs.declared.update.Update.{Update}
use Rattle.kc_graph.specs.Certificate.{Enumerates}
use Rattle.kc_table.specs.declared.view.Event.{Event}
use Rattle.kc_table.specs.Log.{PassSeen, Seen, TableName}
use Rattle.kc_table.specs.TableState.{TableState, state_of, first_vertex}
use Rattle.kc_table.specs.Legal.{Legal, FollowsNote, last_entry, stamp_in}
use Rattle.kc_order.specs.Standing.{list_after}
use Rattle.kc_order.specs.Writers.{Puts, Stores, StoresEntry}
use Rattle.kc_levels.specs.Heads.{vertices_of, with_heads}

-- levels, as contracts see them
pub record Levelled : Type 0 where
  pub table : TableName
  pub log : List Event
  -- the vertices in order
  pub order : List ℕ
  -- the level where each vertex stands
  pub core : List ℕ
  -- whether a section is open
  pub open_ : Bool

-- the log with its table
abbrev pub seen : Levelled → Seen
seen l = record { table = l.table; log = l.log }

-- how many vertices there are
abbrev pub size_of : Levelled → ℕ
size_of l = l.table.shape.fixed

-- what the log has made of the table
abbrev pub state_in : Levelled → TableState
state_in l = state_of l.table.shape l.table.opening l.log

-- the number of the last entry: that of the open section
abbrev pub number_of : Levelled → ℕ
number_of l = last_entry l.table.shape (state_in l)

-- the word of a vertex
abbrev pub word_at : Levelled → ℕ → ℕ
word_at l v = slice_index (state_in l).words (first_vertex l.table.shape + v)

-- the stamp in the word of a vertex
abbrev pub stamp_at : Levelled → ℕ → ℕ
stamp_at l v = stamp_in l.table.shape (state_in l) v

-- the vertices that the open section has moved and not sealed
abbrev pub unsealed_in : Levelled → List ℕ
unsealed_in l = (state_in l).unsealed

-- what levels are by their log, the levels where the vertices stand and whether a section is open
abbrev pub levelled : Seen → List ℕ → Bool → Levelled
levelled s core open_ = record { table = s.table; log = s.log; order = vertices_of s.table.shape.fixed (list_after s.table s.log); core = core; open_ = open_ }

-- the levels never fall along the order
abbrev pub Rises : List ℕ → List ℕ → Type 0
Rises core [] = ⊤
Rises core (v ∷ vs) = ((w : ℕ) → member w vs ≡ true → slice_index core v ≤ slice_index core w) × Rises core vs

-- What holds of all levels.
pub record AreLevels (l : Levelled) : Type 0 where
  pub legal : Legal l.table.shape l.table.opening l.log
  pub items : l.table.shape.items ≡ 2 * size_of l + 1
  pub few : size_of l ≤ VERTICES
  pub list : list_after l.table l.log ≡ with_heads (size_of l) l.order l.core
  pub enumerates : Enumerates (size_of l) l.order
  pub rising : Rises l.core l.order
  pub long : length l.core ≡ size_of l
  pub low : (v : ℕ) → v < size_of l → slice_index l.core v < size_of l
  -- nothing is announced
  pub quiet : (word : ℕ) → FollowsNote (state_in l).note word
  -- the word of a vertex has its level, but for those that were moved and not sealed
  pub words : (v : ℕ) → v < size_of l → member v (unsealed_in l) ≡ false → (vertex_of (word_at l v)).core ≡ slice_index l.core v
  pub unsealed : (v : ℕ) → member v (unsealed_in l) ≡ true → (v < size_of l) × (stamp_at l v < number_of l)
  pub inside : l.open_ ≡ true → 0 < length (state_in l).entries
  pub closed : l.open_ ≡ false → unsealed_in l ≡ []

-- the stamps and the number that the code keeps beside them
pub record Tallied (l : Levelled) (stamps : List ℕ) (number size : ℕ) : Type 0 where
  pub are : AreLevels l
  pub long : length stamps ≡ size_of l
  pub stamps_are : (v : ℕ) → v < size_of l → slice_index stamps v ≡ stamp_at l v
  pub number_is : number ≡ number_of l
  pub number_fits : number < 2 ^ STAMP_BITS
  pub size_is : size ≡ size_of l

-- a section is open, and has not moved this vertex
pub record MayMove (l : Levelled) (v : ℕ) : Type 0 where
  pub vertex : v < size_of l
  pub open_ : l.open_ ≡ true
  pub unmoved : member v (unsealed_in l) ≡ false
  pub once : stamp_at l v < number_of l

-- The vertex was put right after an item, by one put. Then the order and the levels are these.
pub record MovesTo (old new : Levelled) (v p : ℕ) (order core : List ℕ) : Type 0 where
  pub puts : Puts (seen old) (seen new) v p
  pub order_is : new.order ≡ order
  pub core_is : new.core ≡ core
  pub open_is : new.open_ ≡ old.open_
  pub are : AreLevels new
  pub unsealed : unsealed_in new ≡ v ∷ unsealed_in old
  pub entries : (state_in new).entries ≡ (state_in old).entries
  pub words : (w : ℕ) → word_at new w ≡ word_at old w

-- The vertex's word was stored, with the section's number and the level where it stands.
pub record SealsOne (old new : Levelled) (v : ℕ) : Type 0 where
  pub stores : Stores (seen old) (seen new) (first_vertex old.table.shape + v) (vertex_word (record { stamp = number_of old; core = slice_index old.core v }))
  pub order_is : new.order ≡ old.order
  pub core_is : new.core ≡ old.core
  pub open_is : new.open_ ≡ old.open_
  pub are : AreLevels new
  pub unsealed : unsealed_in new ≡ without v (unsealed_in old)
  pub entries : (state_in new).entries ≡ (state_in old).entries
  pub here : word_at new v ≡ vertex_word (record { stamp = number_of old; core = slice_index old.core v })
  pub others : (w : ℕ) → w ≢ v → word_at new w ≡ word_at old w

-- The log has two more stores, the index and the note of an entry, and its section is open.
pub record OpensSection (old new : Levelled) (index : ℕ) (update : Update) : Type 0 where
  pub stores : StoresEntry (seen old) (seen new) index (note_word (Enter update.add update.u update.v))
  pub order_is : new.order ≡ old.order
  pub core_is : new.core ≡ old.core
  pub open_is : new.open_ ≡ true
  pub are : AreLevels new
  pub unsealed : unsealed_in new ≡ []
  -- each vertex may be moved
  pub may_move : (v : ℕ) → v < size_of old → MayMove new v
  pub entries : (state_in new).entries ≡ (state_in old).entries ++ record { index = index; add = update.add; u = update.u; v = update.v } ∷ []
  pub words : (w : ℕ) → word_at new w ≡ word_at old w

-- Levels with a fresh table: these vertices in this order and at these levels, with these stamps; nothing was stored.
pub record OpensLevels (order core stamps : List ℕ) (base version : ℕ) (words : TableName) (levels : Levelled) (pass : PassSeen) : Type 0 where
  pub is : levels ≡ record { table = words; log = []; order = order; core = core; open_ = false }
  pub pass_is : pass ≡ record { table = words; log = []; loads = 0; splits = 0 }
  pub are : AreLevels levels
  pub size : size_of levels ≡ length core
  pub base_is : levels.table.shape.base ≡ base
  pub version_is : levels.table.shape.version ≡ version
  pub stamps_are : (v : ℕ) → v < length core → stamp_at levels v ≡ slice_index stamps v

-- the greatest level of a vertex, 0 where there is none
pub record IsTop (core : List ℕ) (top : ℕ) : Type 0 where
  pub most : (v : ℕ) → v < length core → slice_index core v ≤ top
  pub reached : (top ≡ 0) ⊎ ((v : ℕ) × (v < length core) × (slice_index core v ≡ top))

-- a legal log whose list is that of vertices in these levels
pub record IsHeaded (s : Seen) (core : List ℕ) : Type 0 where
  pub legal : Legal s.table.shape s.table.opening s.log
  pub items : s.table.shape.items ≡ 2 * length core + 1
  pub few : length core ≤ VERTICES
  pub fixed : s.table.shape.fixed ≡ length core
  pub list : list_after s.table s.log ≡ with_heads (length core) (vertices_of (length core) (list_after s.table s.log)) core
