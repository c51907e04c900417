-- Rounds in which each vertex takes the h-index of its neighbours' numbers (Lü, Zhou, Zhang and Stanley 2016).
use Rattle.std.specs.Prelude.{◌≡◌, ◌≤◌, ◌<◌, ℕ, zero, suc, List, length, map, slice_index}
use Rattle.kc_lists.specs.Lists.{below}
use Rattle.kc_graph.specs.SimpleGraph.{SimpleGraph, degree_among}
use Rattle.kc_graph.specs.Neighbours.{neighbours_of}
use Rattle.kc_shard.specs.HIndex.{h_index}

-- what a round makes of the number of `v`
abbrev pub h_round : SimpleGraph → (ℕ → ℕ) → ℕ → ℕ
h_round g c v = h_index (map c (neighbours_of g v))

-- the number of `v` after some rounds from the degrees, all vertices at once
abbrev pub after_rounds : SimpleGraph → ℕ → ℕ → ℕ
after_rounds g zero v = degree_among g (below g.size) v
after_rounds g (suc r) v = h_round g (after_rounds g r) v

-- the numbers after `r` rounds stay the same in the next one
abbrev pub IsSettled : SimpleGraph → ℕ → Type 0
IsSettled g r = (v : ℕ) → v < g.size → after_rounds g (suc r) v ≡ after_rounds g r v

-- `rounds` is the number of the first round that changes nothing
pub record AreRounds (g : SimpleGraph) (rounds : ℕ) : Type 0 where
  pub positive : 1 ≤ rounds
  pub settled : (r : ℕ) → rounds ≡ suc r → IsSettled g r
  pub first : (r : ℕ) → IsSettled g r → rounds ≤ suc r

-- the list has the numbers after `r` rounds
pub record HasRound (g : SimpleGraph) (r : ℕ) (numbers : List ℕ) : Type 0 where
  pub one_each : length numbers ≡ g.size
  pub each : (v : ℕ) → v < g.size → slice_index numbers v ≡ after_rounds g r v

-- each number of the second list is what a round makes of the first
pub record IsRoundOf (g : SimpleGraph) (old new : List ℕ) : Type 0 where
  pub one_each : length new ≡ g.size
  pub each : (v : ℕ) → v < g.size → slice_index new v ≡ h_round g (slice_index old) v
