-- A block that is cut into parts.
use Rattle.std.specs.Prelude.{◌≡◌, ◌≤◌, ◌<◌, ◌^◌, ℕ, true, List, [], ◌∷◌, length, slice_index, All}
use Rattle.std.specs.List.{between}
use Rattle.std.specs.List.Sorted.{IsNonDecreasing}
use Rattle.kc_lists.specs.Lists.{member}
use Rattle.kc_graph.specs.Blocks.{first_of}
use Rattle.kc_graph.specs.Bulk.{is_within, are_joined}
use Rattle.kc_graph.specs.Rows.{IsAdjacency}
use Rattle.kc_graph.specs.declared.bulk.Edge.{Edge}

-- the numbers of one part: `ends` has for each part where it ends, which is where the next one begins
abbrev pub part : List ℕ → List ℕ → ℕ → List ℕ
part ends block v = between (first_of ends v) (slice_index ends v) block

-- the numbers of each part, where the first of them begins at the place `from`
abbrev pub parts_from : ℕ → List ℕ → List ℕ → List (List ℕ)
parts_from from [] block = []
parts_from from (end ∷ ends) block = between from end block ∷ parts_from end ends block

-- The parts lie one after the other, and the last of them ends where the block ends.
pub record Fills (ends block : List ℕ) : Type 0 where
  pub ordered : (v : ℕ) → v < length ends → first_of ends v ≤ slice_index ends v
  pub whole : first_of ends (length ends) ≡ length block

-- The parts have the other ends of the edges at each vertex, sorted and with repeats. Loops have none.
pub record AreEndsOf (edges : List Edge) (ends block : List ℕ) : Type 0 where
  pub within : All (λ e. is_within (length ends) e ≡ true) edges
  pub fills : Fills ends block
  pub sorted : (v : ℕ) → v < length ends → IsNonDecreasing (part ends block v)
  pub joined : (v w : ℕ) → v < length ends → member w (part ends block v) ≡ are_joined edges v w

-- The parts are the rows of a graph.
pub record IsFlat (ends block : List ℕ) : Type 0 where
  pub adjacency : IsAdjacency (parts_from 0 ends block)
  pub few : length ends < 2 ^ 32
  pub fills : Fills ends block
