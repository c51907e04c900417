-- An array of numbers, of which only some pages are there.
use Rattle.std.specs.Prelude.{◌≡◌, ◌≢◌, ◌<◌, ◌≤◌, ◌+◌, ◌*◌, ◌/◌, ◌%◌, ℕ, zero, suc, List, length, slice_index}
use Rattle.kc_marks.specs.declared.sparse.TheConstants.{PAGE}

-- the number of each block's page, counted from 1, or 0 where it is not there; and all pages one after another
pub record Sparse : Type 0 where
  pub pages : List ℕ
  pub slots : List ℕ

-- what stands at a place of a page; a page that is not there is blank
abbrev pub on_page : List ℕ → ℕ → ℕ → ℕ
on_page slots zero i = 0
on_page slots (suc k) i = slice_index slots (k * PAGE + i)

-- the number of the vertex `y`
abbrev pub number_at : Sparse → ℕ → ℕ
number_at a y = on_page a.slots (slice_index a.pages (y / PAGE)) (y % PAGE)

-- Each page is whole, and is of one block alone.
pub record IsSparse (a : Sparse) : Type 0 where
  pub whole : (length a.slots / PAGE) * PAGE ≡ length a.slots
  pub within : (b : ℕ) → slice_index a.pages b * PAGE ≤ length a.slots
  pub apart : (b c : ℕ) → b ≢ c → 0 < slice_index a.pages b → slice_index a.pages b ≢ slice_index a.pages c

-- One vertex has this number, and each other the one that it had.
pub record NumbersOne (y value : ℕ) (old new : Sparse) : Type 0 where
  pub here : number_at new y ≡ value
  pub others : (z : ℕ) → z ≢ y → number_at new z ≡ number_at old z
