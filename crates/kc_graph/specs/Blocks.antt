-- Rows whose numbers lie one after the other in a block, or in lists of their own.
use Rattle.std.specs.Prelude.{◌≡◌, ◌≤◌, ◌<◌, ◌-◌, ◌⊎◌, ℕ, zero, suc, slice_index, List, [], ◌∷◌, length, map}
use Rattle.std.specs.List.{between}
use Rattle.std.specs.declared.vec.Vec.{Vec}
use Rattle.std.specs.declared.alloc.Global.{Global}
use Rattle.kc_graph.specs.declared.row.Row.{Row}
use Rattle.kc_graph.specs.declared.row.Row.TheVariants.{Part, Own}

-- the numbers of a row
abbrev pub entries_of : List ℕ → Row → List ℕ
entries_of block (Part from to) = between from to block
entries_of block (Own list) = list.items

-- the numbers of each row
abbrev pub entries_of_each : List ℕ → List Row → List (List ℕ)
entries_of_each block rows = map (entries_of block) rows

-- The rows that lie in the block lie in it one after the other, from the place `first` on.
abbrev pub LieFrom : ℕ → List ℕ → List Row → Type 0
LieFrom first block [] = Unit {0}
LieFrom first block (Part from to ∷ rows) = (first ≤ from) × (from ≤ to) × (to ≤ length block) × LieFrom to block rows
LieFrom first block (Own list ∷ rows) = LieFrom first block rows

-- A row that lies in the block lies within it.
abbrev pub LiesIn : List ℕ → Row → Type 0
LiesIn block (Part from to) = (from ≤ to) × (to ≤ length block)
LiesIn block (Own list) = Unit {0}

-- The block differs at most from the place `from` to below `to`.
pub record DiffersWithin (old new : List ℕ) (from to : ℕ) : Type 0 where
  pub same_length : length new ≡ length old
  pub below : (a b : ℕ) → b ≤ from → between a b new ≡ between a b old
  pub above : (a b : ℕ) → to ≤ a → between a b new ≡ between a b old

-- where a part of a block begins, where `ends` tells for each of them where it ends
abbrev pub first_of : List ℕ → ℕ → ℕ
first_of ends zero = 0
first_of ends (suc v) = slice_index ends v

-- The new row lies in no block, or where the old one lay.
abbrev pub IsOwnOrSame : Row → Row → Type 0
IsOwnOrSame old new = ((list : Vec ℕ Global) × new ≡ Own list) ⊎ (new ≡ old)

-- A row of a block ends one place earlier, and the block differs at most where the old one lay. A list of its own stays one.
abbrev pub IsShorter : List ℕ → List ℕ → Row → Row → Type 0
IsShorter block block' (Part from to) new = (new ≡ Part from (to - 1)) × (from < to) × DiffersWithin block block' from to
IsShorter block block' (Own list) new = ((other : Vec ℕ Global) × new ≡ Own other) × (block' ≡ block)
