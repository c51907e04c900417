-- What is kept true while the numbers that pieces keep are taken over.
use Rattle.std.specs.Prelude.{◌≡◌, ◌↔◌, ◌≤◌, ◌<◌, ◌+◌, ◌*◌, ℕ, Bool, true, false, List, length, slice_index, slice_index_or}
use Rattle.kc_graph.specs.Rows.{row}
use Rattle.kc_hindex.specs.declared.piece.Piece.{Piece}
use Rattle.kc_hindex.specs.Pieces.{StandFrom, numbers_of}

-- each number is marked that some vertex had reached and does not reach any more
abbrev pub Crosses : List ℕ → List ℕ → List Bool → Type 0
Crosses old new crossed = (v k : ℕ) → v < length old → slice_index new v < k → k ≤ slice_index old v → slice_index_or crossed k false ≡ true

-- what was marked is marked still
abbrev pub KeepsMarks : List Bool → List Bool → Type 0
KeepsMarks marks crossed = (k : ℕ) → slice_index_or marks k false ≡ true → slice_index_or crossed k false ≡ true

-- The first `n` of the numbers `new` of a piece stand at their vertices, which are a step apart from the first on. What they crossed is
-- marked, and it is known whether one of them changed.
pub record Taken (first step : ℕ) (new : List ℕ) (n : ℕ) (old : List ℕ) (marks : List Bool) (numbers : List ℕ) (crossed : List Bool)
    (changed : Bool) : Type 0 where
  pub len : length numbers ≡ length old
  pub one_mark : length crossed ≡ length marks
  pub taken : (i : ℕ) → i < n → slice_index numbers (first + i * step) ≡ slice_index new i
  pub others : (v : ℕ) → ((i : ℕ) → i < n → v ≡ first + i * step → ⊥) → slice_index numbers v ≡ slice_index old v
  pub falls : (v : ℕ) → slice_index numbers v ≤ slice_index old v
  pub crosses : Crosses old numbers crossed
  pub kept : KeepsMarks marks crossed
  pub same : changed ≡ false ↔ ((i : ℕ) → i < n → slice_index old (first + i * step) ≡ slice_index new i)

-- The numbers of the first `n` pieces stand at their vertices, those of the others as before. What they crossed is marked, and it is known
-- whether one of them changed.
pub record AllTaken (pieces : List Piece) (n : ℕ) (old : List ℕ) (marks : List Bool) (numbers : List ℕ) (crossed : List Bool) (changed : Bool) : Type 0 where
  pub len : length numbers ≡ length old
  pub one_mark : length crossed ≡ length marks
  pub taken : (p : ℕ) → p < n → StandFrom p (length pieces) numbers (row (numbers_of pieces) p)
  pub others : (p i : ℕ) → n ≤ p → p < length pieces → slice_index numbers (p + i * length pieces) ≡ slice_index old (p + i * length pieces)
  pub falls : (v : ℕ) → slice_index numbers v ≤ slice_index old v
  pub crosses : Crosses old numbers crossed
  pub same : changed ≡ false ↔ ((p : ℕ) → p < n → StandFrom p (length pieces) old (row (numbers_of pieces) p))
