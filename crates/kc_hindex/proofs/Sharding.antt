-- What shards make of a graph's numbers is a round, and their rounds lead from the degrees to the core numbers.
use Rattle.std.proofs.Common.{◌≡◌, ◌≤◌, ◌<◌, ◌∙◌, ℕ, suc, zero, List, length, map, get_or, leb, sym, arith}
use Rattle.std.specs.Prelude.{count_by}
use Rattle.kc_lists.specs.Lists.{below}
use Rattle.kc_lists.proofs.Counting.{below-member, count-all, count-le, member-below, Distinct-below}
use Rattle.kc_graph.specs.Core.{AreCoreNumbers}
use Rattle.kc_graph.specs.Neighbours.{neighbours_of}
use Rattle.kc_graph.specs.SimpleGraph.{SimpleGraph, adjacent, degree_among}
use Rattle.kc_graph.proofs.NeighbourLists.{neighbours_has, neighbours_once, neighbours_within}
use Rattle.kc_shard.specs.HIndex.{h_index, how_many_reach, IsHIndex}
use Rattle.kc_shard.specs.Shards.{shard_row}
use Rattle.kc_shard.proofs.HIndex.{count-map, h_index-greatest, h_index-only, h_index-reached}
use Rattle.kc_hindex.specs.Rounds.{HasRound, IsRoundOf, h_round}
use Rattle.kc_hindex.specs.Sharding.{AreShardNumbers, HasShardNumber, ListsNeighbours}
use Rattle.kc_hindex.proofs.Cores.{settled-are_core}
use Rattle.kc_hindex.proofs.Settling.{round-next, round-unchanged}

module _ (g : SimpleGraph) (v : ℕ) (ws : List ℕ) (h : ListsNeighbours g v ws) where
  -- as many of the numbers of a list of the neighbours reach a number as of those in ascending order
  reach-listed : (c : ℕ → ℕ) (k : ℕ) → how_many_reach k (map c ws) ≡ how_many_reach k (map c (neighbours_of g v))
  reach-listed c k =
      let near : List ℕ = neighbours_of g v in
      let up : count_by (λ w. leb k (c w)) ws ≤ count_by (λ w. leb k (c w)) near =
      count-le (λ w. leb k (c w)) ws near h.once (λ w m _. neighbours_has g v w (h.within w m) ∙ sym (h.exact w (h.within w m)) ∙ m) in
      let down : count_by (λ w. leb k (c w)) near ≤ count_by (λ w. leb k (c w)) ws =
      count-le (λ w. leb k (c w)) near ws (neighbours_once g v)
      (λ w m _. let k = neighbours_within g v w m in h.exact w k.0 ∙ k.1) in
      omega (arith, up, down, count-map (leb k) c ws, count-map (leb k) c near)

  -- in any order the numbers of the neighbours have the h-index that a round takes
  listed-round : (c : ℕ → ℕ) → h_index (map c ws) ≡ h_round g c v
  listed-round c =
      let near : List ℕ = neighbours_of g v in
      let is : IsHIndex (map c near) (h_index (map c ws)) = record {
        reached = omega (arith, h_index-reached (map c ws), reach-listed c (h_index (map c ws)));
        greatest = λ k l. h_index-greatest (map c ws) k (omega (arith, l, reach-listed c k));
      } in
      h_index-only (map c near) (h_index (map c ws)) is

  -- there are as many as the degree
  listed-degree : length ws ≡ degree_among g (below g.size) v
  listed-degree =
      let all : count_by (adjacent g v) ws ≡ length ws = count-all (adjacent g v) ws (λ w m. sym (h.exact w (h.within w m)) ∙ m) in
      let up : count_by (adjacent g v) ws ≤ count_by (adjacent g v) (below g.size) =
      count-le (adjacent g v) ws (below g.size) h.once (λ w m _. member-below w g.size (h.within w m)) in
      let down : count_by (adjacent g v) (below g.size) ≤ count_by (adjacent g v) ws =
      count-le (adjacent g v) (below g.size) ws (Distinct-below g.size) (λ w m a. h.exact w (below-member w g.size m) ∙ a) in
      omega (arith, all, up, down)

-- the lengths of lists of the neighbours are the degrees, from which the rounds begin
pub degrees-listed : (g : SimpleGraph) (numbers : List ℕ) → length numbers ≡ g.size
    → ((v : ℕ) → v < g.size → (ws : List ℕ) × ListsNeighbours g v ws × (get_or numbers v 0 ≡ length ws)) → HasRound g 0 numbers
degrees-listed g numbers one h = record {
  one_each = one;
  each = λ v l. let k = h v l in k.2 ∙ listed-degree g v k.0 k.1;
}

-- what shards make of the numbers is a round of them
pub round-of_shards : (g : SimpleGraph) (numbers new : List ℕ) → AreShardNumbers g numbers new → IsRoundOf g numbers new
round-of_shards g numbers new h = record {
  one_each = h.one_each;
  each = λ v l.
      let k : HasShardNumber g numbers v (get_or new v 0) = h.each v l in
      k.is_number ∙ k.made.each k.row k.in_shard ∙ listed-round g v (shard_row k.offsets k.neighbours k.row) k.lists (λ w. get_or numbers w 0);
}

-- after so many rounds of shards the numbers are those after so many rounds
rounds-of_shards : (g : SimpleGraph) (numbers : ℕ → List ℕ) (last : ℕ) → HasRound g 0 (numbers 0)
    → ((r : ℕ) → r < last → AreShardNumbers g (numbers r) (numbers (suc r))) → HasRound g last (numbers last)
rounds-of_shards g numbers zero first h = first
rounds-of_shards g numbers (suc last) first h =
    round-next g last (numbers last) (numbers (suc last)) (rounds-of_shards g numbers last first (λ r l. h r (omega arith)))
    (round-of_shards g (numbers last) (numbers (suc last)) (h last (omega arith)))

-- where the last round changed nothing, they are the core numbers
pub settled-shards : (g : SimpleGraph) (numbers : ℕ → List ℕ) (last : ℕ) → HasRound g 0 (numbers 0)
    → ((r : ℕ) → r ≤ last → AreShardNumbers g (numbers r) (numbers (suc r))) → numbers (suc last) ≡ numbers last → AreCoreNumbers g (numbers last)
settled-shards g numbers last first h same =
    let here : HasRound g last (numbers last) = rounds-of_shards g numbers last first (λ r l. h r (omega arith)) in
    let next : HasRound g (suc last) (numbers (suc last)) = rounds-of_shards g numbers (suc last) first (λ r l. h r (omega arith)) in
    settled-are_core g last (numbers last) (round-unchanged g last (numbers last) (numbers (suc last)) here next (sym same)) here
