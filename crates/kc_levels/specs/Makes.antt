-- What making all moves of a plan does: its puts, one at a time, and then the words of the vertices that were moved.
use Rattle.std.specs.Prelude.{◌≡◌, ◌<◌, ◌+◌, ◌*◌, ℕ, true, false, not, ◌||◌, ◌&&◌, List, [], ◌∷◌, ◌++◌, length, slice_index}
use Rattle.std.specs.FinSet as set
use Rattle.kc_lists.specs.Lists.{member}
use Rattle.kc_words.specs.VertexWord.{vertex_word}
use Rattle.kc_graph.specs.Lawful.{Ranked}
use Rattle.kc_graph.specs.Plans.{moved_by}
use Rattle.kc_graph.specs.declared.plan.Moves.{Moves}
use Rattle.kc_graph.specs.declared.plan.Moves.TheVariants.{Kept, Plain, Rise, Fall}
use Rattle.kc_cert.specs.Local.{firsts, MovesFit, moved_vertices}
use Rattle.kc_table.specs.Log.{Seen}
use Rattle.kc_table.specs.TableState.{first_vertex}
use Rattle.kc_order.specs.Writers.{HasRoom, PutsEach, Stores}
use Rattle.kc_levels.specs.Levels.{Levelled, AreLevels, MayMove, seen, size_of, state_in, number_of, stamp_at, word_at, unsealed_in}

-- these vertices were put in turn, each once
pub record PutsInTurn (old : Seen) (vs : List ℕ) (new : Seen) : Type 0 where
  pub puts : List (ℕ × ℕ)
  pub vertices : firsts puts ≡ vs
  pub run : PutsEach old puts new

-- the word of each vertex in turn was stored once, with this stamp and these levels
abbrev pub SealsInTurn : ℕ → List ℕ → Seen → List ℕ → Seen → Type 0
SealsInTurn stamp core old [] new = new ≡ old
SealsInTurn stamp core old (v ∷ vs) new = (next : Seen) × Stores old next (first_vertex old.table.shape + v)
    (vertex_word (record { stamp = stamp; core = slice_index core v })) × SealsInTurn stamp core next vs new

-- a list from its last to its first
abbrev pub backwards : List ℕ → List ℕ
backwards [] = []
backwards (x ∷ xs) = backwards xs ++ x ∷ []

-- the vertices that moves put, in the order of the puts
abbrev pub puts_of : Moves → List ℕ
puts_of Kept = []
puts_of Plain = []
puts_of (Rise level rise shifts) = firsts shifts.items ++ backwards rise.items
puts_of (Fall level fall) = fall.items

-- these vertices were put, each once; the order and the levels are these
pub record PutsAll (old new : Levelled) (vs order core : List ℕ) : Type 0 where
  pub puts : PutsInTurn (seen old) vs (seen new)
  pub table : new.table ≡ old.table
  pub order_is : new.order ≡ order
  pub core_is : new.core ≡ core
  pub open_is : new.open_ ≡ old.open_
  pub are : AreLevels new
  pub unsealed : (v : ℕ) → member v (unsealed_in new) ≡ (member v (unsealed_in old) || member v vs)
  pub entries : (state_in new).entries ≡ (state_in old).entries
  pub words : (w : ℕ) → word_at new w ≡ word_at old w

-- these vertices may be put now, each once
pub record MayPutAll (l : Levelled) (vs : List ℕ) : Type 0 where
  pub are : AreLevels l
  pub open_ : l.open_ ≡ true
  pub unmoved : (v : ℕ) → member v vs ≡ true → (v < size_of l) × (member v (unsealed_in l) ≡ false) × (stamp_at l v < number_of l)
  -- three versions a put
  pub versions : HasRoom l.table l.log (3 * length vs)

-- these vertices were sealed, each once
pub record SealsAll (old new : Levelled) (vs : List ℕ) : Type 0 where
  pub seals : SealsInTurn (number_of old) old.core (seen old) vs (seen new)
  pub table : new.table ≡ old.table
  pub order_is : new.order ≡ old.order
  pub core_is : new.core ≡ old.core
  pub open_is : new.open_ ≡ old.open_
  pub are : AreLevels new
  pub unsealed : (v : ℕ) → member v (unsealed_in new) ≡ (member v (unsealed_in old) && not (member v vs))
  pub entries : (state_in new).entries ≡ (state_in old).entries
  pub here : (v : ℕ) → member v vs ≡ true → word_at new v ≡ vertex_word (record { stamp = number_of old; core = slice_index old.core v })
  pub others : (v : ℕ) → member v vs ≡ false → word_at new v ≡ word_at old v

-- levels as a state of a planner: a graph without edges has the number of vertices
abbrev pub as_ranked : Levelled → Ranked
as_ranked l = record { graph = record { size = size_of l; edges = set.empty }; core = l.core; order = l.order }

-- the moves fit, the open section has put nothing, and there is room for all puts
pub record MayMake (l : Levelled) (moves : Moves) : Type 0 where
  pub are : AreLevels l
  pub open_ : l.open_ ≡ true
  pub fit : MovesFit (as_ranked l) moves
  pub fresh : unsealed_in l ≡ []
  pub once : (v : ℕ) → member v (moved_vertices moves) ≡ true → stamp_at l v < number_of l
  pub low : (v : ℕ) → v < size_of l → slice_index (moved_by moves (as_ranked l)).core v < size_of l
  pub versions : HasRoom l.table l.log (3 * length (moved_vertices moves))

-- These vertices were put and these sealed, all in turn, and nothing else was stored; the order and the levels are these.
pub record MakesAll (old new : Levelled) (puts vs order core : List ℕ) : Type 0 where
  pub between : Seen
  pub puts_are : PutsInTurn (seen old) puts between
  pub seals_are : SealsInTurn (number_of old) new.core between vs (seen new)
  pub table : new.table ≡ old.table
  pub order_is : new.order ≡ order
  pub core_is : new.core ≡ core
  pub open_is : new.open_ ≡ old.open_
  pub are : AreLevels new
  pub unsealed : unsealed_in new ≡ []
  pub entries : (state_in new).entries ≡ (state_in old).entries
  pub moved : (v : ℕ) → member v vs ≡ true → word_at new v ≡ vertex_word (record { stamp = number_of old; core = slice_index new.core v })
  pub others : (v : ℕ) → member v vs ≡ false → word_at new v ≡ word_at old v

-- All moves were made: the order and the levels are those of the state after them.
abbrev pub Makes : Levelled → Levelled → Moves → Type 0
Makes old new moves = MakesAll old new (puts_of moves) (moved_vertices moves) (moved_by moves (as_ranked old)).order (moved_by moves (as_ranked old)).core

-- the levels are those of a state: its vertices in order, each at the level of its core number
pub record AreLevelsOf (s : Ranked) (l : Levelled) : Type 0 where
  pub size : size_of l ≡ s.graph.size
  pub order : l.order ≡ s.order
  pub core : l.core ≡ s.core

-- a section is open and has moved nothing yet
pub record IsFresh (l : Levelled) : Type 0 where
  pub are : AreLevels l
  pub open_ : l.open_ ≡ true
  pub unmoved : unsealed_in l ≡ []
  pub may_move : (v : ℕ) → v < size_of l → MayMove l v
