-- Rounds that shards make of a graph's numbers.
use Rattle.std.specs.Prelude.{◌≡◌, ◌<◌, ℕ, true, List, length, slice_index}
use Rattle.kc_lists.specs.Lists.{Distinct, member}
use Rattle.kc_graph.specs.SimpleGraph.{SimpleGraph, adjacent}
use Rattle.kc_shard.specs.Shards.{IsShardRound, shard_row}

-- The list has each neighbour of `v` once, in any order, and nothing else.
pub record ListsNeighbours (g : SimpleGraph) (v : ℕ) (ws : List ℕ) : Type 0 where
  pub once : Distinct ws
  pub within : (w : ℕ) → member w ws ≡ true → w < g.size
  pub exact : (w : ℕ) → w < g.size → member w ws ≡ adjacent g v w

-- Some shard has a row with the neighbours of `v`, and its round of these numbers gave the row this number.
pub record HasShardNumber (g : SimpleGraph) (numbers : List ℕ) (v number : ℕ) : Type 0 where
  pub offsets : List ℕ
  pub neighbours : List ℕ
  pub next : List ℕ
  pub row : ℕ
  pub made : IsShardRound offsets neighbours numbers next
  pub in_shard : row < length next
  pub lists : ListsNeighbours g v (shard_row offsets neighbours row)
  pub is_number : number ≡ slice_index next row

-- Each vertex has its new number from the round of some shard.
pub record AreShardNumbers (g : SimpleGraph) (numbers new : List ℕ) : Type 0 where
  pub one_each : length new ≡ g.size
  pub each : (v : ℕ) → v < g.size → HasShardNumber g numbers v (slice_index new v)
