-- Blocks of entries, and where each of them begins.
use Rattle.std.specs.Prelude.{◌≡◌, ◌≤◌, ◌<◌, ◌+◌, ◌++◌, ℕ, List, [], ◌∷◌, length, take, drop, map, slice_index}
use Rattle.std.specs.List.{flat_map}
use Rattle.std.specs.declared.vec.Vec.{Vec}
use Rattle.std.specs.declared.alloc.Global.{Global}
use Rattle.kc_blocks.specs.declared.blocks.Blocks.{Blocks}

-- the entries of all blocks, one block after the other
abbrev pub all_entries : List (Vec ℕ Global) → List ℕ
all_entries blocks = flat_map (λ block. block.items) blocks

-- where each block begins, if the first begins at `n`
abbrev pub starts_from : ℕ → List (Vec ℕ Global) → List ℕ
starts_from n [] = []
starts_from n (block ∷ blocks) = n ∷ starts_from (n + length block.items) blocks

-- the places with all from the number `first` on greater by one
abbrev pub later_from : ℕ → List ℕ → List ℕ
later_from first places = take first places ++ map (λ place. place + 1) (drop first places)

-- It is said of each block where it begins.
abbrev pub IsPlaced : Blocks → Type 0
IsPlaced blocks = blocks.starts.items ≡ starts_from 0 blocks.blocks.items

-- The block in which a place lies is the last one that begins no later.
pub record IsBlockOf (blocks : Blocks) (place block : ℕ) : Type 0 where
  pub there : block < length blocks.blocks.items
  pub begun : slice_index blocks.starts.items block ≤ place
  pub next : block + 1 < length blocks.blocks.items → place < slice_index blocks.starts.items (block + 1)
