-- The rule of the words, and what each step tells.
use Rattle.std.specs.Prelude.{◌≡◌, ◌+◌, ℕ, List, [], ◌∷◌, ◌++◌, true, false}
use mathlib.Core.List.{IsPrefix}
use mathlib.Core.Option.{some}
use lib.ListN.{get_elem?}
use Rattle.atomic_table.specs.Table.{State, Me, Step}
use Rattle.kc_table.specs.declared.view.Event.{Event}
use Rattle.kc_words.specs.declared.shape.Shape.{Shape}
use Rattle.kc_table.specs.declared.view.Opening.{Opening}
use Rattle.kc_table.specs.declared.view.Knowledge.{Knowledge}
use Rattle.kc_table.specs.Log.{words_after, value_at, event, no_shape}
use Rattle.kc_table.specs.Legal.{Legal}

-- each of these is a beginning of the log
abbrev pub EachBegins : List (List Event) → List Event → Type 0
EachBegins [] log = Unit {0}
EachBegins (p ∷ ps) log = IsPrefix p log × EachBegins ps log

-- what a seat knows is so, unless it is spent: which table it is, and beginnings of the log
pub record Knows (shape : Shape) (opening : List ℕ) (log : List Event) (v : Knowledge) : Type 0 where
  pub same_shape : v.shape ≡ shape
  pub same_opening : v.opening ≡ opening
  pub begins : IsPrefix v.seen log
  pub kept_begin : EachBegins v.kept log

-- and there is one writer, which has seen the whole log
pub record Fits (shape : Shape) (opening : List ℕ) (log : List Event) (writer seat : ℕ) (v : Knowledge) : Type 0 where
  pub knows : v.spent ≡ false → Knows shape opening log v
  pub wrote : v.writes ≡ true → (seat ≡ writer) × (v.seen ≡ log)

-- what stays true of a table: its words are those after a legal log, and what each seat knows fits that log
pub record KeepsTable {S : Type 0} (k : Opening) (s : State S Knowledge) : Type 0 where
  pub log : List Event
  pub writer : ℕ
  pub words : s.words ≡ words_after k.words.items log
  pub legal : Legal k.shape k.words.items log
  pub each : (seat : ℕ) (v : Knowledge) → get_elem? s.views seat ≡ some v → Fits k.shape k.words.items log writer seat v

-- the view that a table begins with: it may write, and has seen nothing
abbrev pub first_view : Opening → Knowledge
first_view k = record {
  spent = false;
  writes = true;
  shape = k.shape;
  opening = k.words.items;
  seen = [];
  kept = [];
  loads = 0;
  splits = 0;
}

-- a pass that has seen as much, and has made no load and no split yet
abbrev pub pass_of : Knowledge → Knowledge
pass_of v = record {
  spent = false;
  writes = false;
  shape = v.shape;
  opening = v.opening;
  seen = v.seen;
  kept = [];
  loads = 0;
  splits = 0;
}

-- the view that one was split from: it has made a split more
abbrev pub parted : Knowledge → Knowledge
parted v = record {
  spent = v.spent;
  writes = v.writes;
  shape = v.shape;
  opening = v.opening;
  seen = v.seen;
  kept = v.kept;
  loads = v.loads;
  splits = v.splits + 1;
}

-- a view that was told of another, and has that one's steps beside its own
abbrev pub told : Knowledge → Knowledge → Knowledge
told v w = record {
  spent = v.spent;
  writes = v.writes;
  shape = v.shape;
  opening = v.opening;
  seen = v.seen;
  kept = w.seen ∷ v.kept;
  loads = v.loads + w.loads;
  splits = v.splits + w.splits;
}

-- the view of a seat that is spent: it knows nothing
abbrev pub nobody : Knowledge
nobody = record {
  spent = true;
  writes = false;
  shape = no_shape;
  opening = [];
  seen = [];
  kept = [];
  loads = 0;
  splits = 0;
}

-- a store makes the log longer by one
abbrev pub adds : Knowledge → Event → Knowledge
adds v e = record {
  spent = v.spent;
  writes = v.writes;
  shape = v.shape;
  opening = v.opening;
  seen = v.seen ++ e ∷ [];
  kept = v.kept;
  loads = v.loads;
  splits = v.splits;
}

-- what a view has seen after one load more
abbrev pub sees : Knowledge → List Event → Knowledge
sees v log = record {
  spent = v.spent;
  writes = v.writes;
  shape = v.shape;
  opening = v.opening;
  seen = log;
  kept = [];
  loads = v.loads + 1;
  splits = v.splits;
}

-- what a load tells
pub record Looked (v : Knowledge) (word found : ℕ) (log : List Event) : Type 0 where
  pub longer : IsPrefix v.seen log
  pub kept_begin : EachBegins v.kept log
  pub value : found ≡ value_at v.opening log word
  pub legal : Legal v.shape v.opening log
  pub whole : v.writes ≡ true → log ≡ v.seen

-- what becomes of a seat and its view where it loads
abbrev pub TellsLoad : {S : Type 0} → Step S → Me S Knowledge → ℕ → Me S Knowledge → Type 0
TellsLoad st m found m' = (m'.1 ≡ m.1) × (m'.0 ≡ sees m.0 m'.0.seen) × Looked m.0 st.word found m'.0.seen

-- what becomes of a seat and its view where it stores
abbrev pub TellsStore : {S : Type 0} → Step S → Me S Knowledge → ℕ → Me S Knowledge → Type 0
TellsStore st m found m' = m' ≡ (adds m.0 (event st.word found), m.1)
