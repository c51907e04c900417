-- Who is left at the last round of a vertex had a number above the core number of the vertex in the round before. So these are no more than it.
use Rattle.std.proofs.Common.{◌≡◌, ◌≤◌, ◌<◌, ◌+◌, ◌∙◌, ◌&&◌, ℕ, suc, zero, Bool, true, List, get_or, leb, ltb, eqb}
use Rattle.std.proofs.Common.{◌-◌, length, sym, ap, subst, inl, inr, arith, le-leb, leb-true, ltb-true, eqb-true}
use Rattle.std.specs.Prelude.{count_by}
use Rattle.std.proofs.lemmas.Bool.{and_parts, or_cases, cases_lt}
use Rattle.kc_lists.specs.Lists.{below}
use Rattle.kc_lists.proofs.Counting.{below-member, count-le, count-mono, Distinct-below, member-from_Contains}
use Rattle.kc_graph.specs.Core.{AreCoreNumbers, IsInCore}
use Rattle.kc_graph.specs.Neighbours.{neighbours_of}
use Rattle.kc_graph.specs.SimpleGraph.{SimpleGraph, adjacent, degree_among}
use Rattle.kc_graph.proofs.NeighbourLists.{neighbours_has, neighbours_within}
use Rattle.kc_shard.proofs.HIndex.{in_reach}
use Rattle.kc_hindex.specs.Rounds.{HasRound, after_rounds}
use Rattle.kc_hindex.proofs.Cores.{core-below}
use Rattle.kc_hindex.proofs.Settling.{never_rises}
use Rattle.kc_tally.specs.Layers.{is_left_at, left_at}
use Rattle.kc_ranks.specs.LastRounds.{AreLastChanges, AreLastRounds}

module _ (g : SimpleGraph) (core rank : List ℕ) (right : AreCoreNumbers g core) (h : AreLastRounds g core rank) where
  -- no round takes a vertex below its core number
  never-below : (r w : ℕ) → w < g.size → get_or core w 0 ≤ after_rounds g r w
  never-below r w l =
      let k : IsInCore g (get_or core w 0) w = (right.each w l).reached in
      core-below g (get_or core w 0) k.0 k.1 r w (member-from_Contains k.0 w k.2)

  -- who is left at the round after `r` had a number above the level before it
  left-above : (r level w : ℕ) → w < g.size → is_left_at core rank level (suc r) w ≡ true → level + 1 ≤ after_rounds g r w
  left-above r level w l t =
      elim (or_cases (ltb level (get_or core w 0)) (eqb level (get_or core w 0) && leb (suc r) (get_or rank w 0)) t) [
        | inl up ↦ omega (arith, ltb-true level (get_or core w 0) up, never-below r w l)
        | inr both ↦
            let k = and_parts (eqb level (get_or core w 0)) (leb (suc r) (get_or rank w 0)) both in
            let later : r < get_or rank w 0 = omega (arith, leb-true (suc r) (get_or rank w 0) k.1) in
            omega (arith, eqb-true level (get_or core w 0) k.0, h.greater_before w r l later)
      ]

  -- at the round after `r` a vertex has no more neighbours left than the number that this round gives it
  left-few : (r v : ℕ) → v < g.size → after_rounds g (suc r) v ≡ get_or core v 0 → left_at g core rank (suc r) v ≤ get_or core v 0
  left-few r v l reached =
      let level : ℕ = get_or core v 0 in
      let c : ℕ → ℕ = after_rounds g r in
      let near : List ℕ = neighbours_of g v in
      let left : ℕ → Bool = λ w. adjacent g v w && is_left_at core rank level (suc r) w in
      let one : count_by left (below g.size) ≤ count_by left near =
      count-le left (below g.size) near (Distinct-below g.size)
      (λ w m t. neighbours_has g v w (below-member w g.size m) ∙ (and_parts (adjacent g v w) (is_left_at core rank level (suc r) w) t).0) in
      let two : count_by left near ≤ count_by (λ w. leb (level + 1) (c w)) near =
      count-mono left (λ w. leb (level + 1) (c w)) near
      (λ w m t.
      let k = and_parts (adjacent g v w) (is_left_at core rank level (suc r) w) t in
      le-leb (level + 1) (c w) (left-above r level w (neighbours_within g v w m).0 k.1)) in
      elim (cases_lt level (count_by (λ w. leb (level + 1) (c w)) near)) [
        | inl many ↦ absurd (omega (arith, in_reach c near (level + 1) (omega (arith, many)), reached))
        | inr few ↦ omega (arith, one, two, few)
      ]

  -- at a rank a vertex has no more neighbours left than its core number
  left-at : (rank_v v : ℕ) → v < g.size → after_rounds g rank_v v ≡ get_or core v 0 → left_at g core rank rank_v v ≤ get_or core v 0
  left-at zero v l reached =
      let level : ℕ = get_or core v 0 in
      let fewer : left_at g core rank 0 v ≤ degree_among g (below g.size) v =
      count-mono (λ w. adjacent g v w && is_left_at core rank level 0 w) (adjacent g v) (below g.size)
      (λ w _ t. (and_parts (adjacent g v w) (is_left_at core rank level 0 w) t).0) in
      omega (arith, fewer, reached)
  left-at (suc r) v l reached = left-few r v l reached

  -- it is so for each vertex at its own rank
  pub last-rounds-few : (v : ℕ) → v < g.size → left_at g core rank (get_or rank v 0) v ≤ get_or core v 0
  last-rounds-few v l = left-at (get_or rank v 0) v l (h.reached v l)

-- numbers never rise over any count of rounds
never-rise : (g : SimpleGraph) (r k v : ℕ) → after_rounds g (r + k) v ≤ after_rounds g r v
never-rise g r zero v = let same : r + 0 ≡ r = omega arith in omega (arith, ap (λ (n : ℕ). after_rounds g n v) same)
never-rise g r (suc k) v =
    let next : r + suc k ≡ suc (r + k) = omega arith in
    omega (arith, ap (λ (n : ℕ). after_rounds g n v) next, never_rises g (r + k) v, never-rise g r k v)

-- the last round that changed a number is the first after which it stays
pub last-changes : (g : SimpleGraph) (numbers : ℕ → List ℕ) (last : ℕ) (rank : List ℕ) → ((r : ℕ) → r ≤ last → HasRound g r (numbers r))
    → AreLastChanges numbers last rank → AreLastRounds g (numbers last) rank
last-changes g numbers last rank rounds kept = record {
  one_each = size;
  reached = λ v l. sym ((rounds (get_or rank v 0) (kept.within v (here v l))).each v l) ∙ kept.same_since v (here v l);
  greater_before = λ v r l less.
      let before : ℕ = get_or rank v 0 - 1 in
      let is : get_or rank v 0 ≡ suc before = omega (arith, less) in
      let rank_in : suc before ≤ last = omega (arith, is, kept.within v (here v l)) in
      let old : get_or (numbers before) v 0 ≡ after_rounds g before v = (rounds before (omega (arith, rank_in))).each v l in
      let new : get_or (numbers (suc before)) v 0 ≡ after_rounds g (suc before) v = (rounds (suc before) rank_in).each v l in
      let end : get_or (numbers (suc before)) v 0 ≡ get_or (numbers last) v 0 =
      ap (λ (n : ℕ). get_or (numbers n) v 0) (sym is) ∙ kept.same_since v (here v l) in
      let other : get_or (numbers (suc before)) v 0 ≡ get_or (numbers before) v 0 → ⊥ = kept.changed v before (here v l) is in
      let way : r + (before - r) ≡ before = omega (arith, is, less) in
      let falls : after_rounds g before v ≤ after_rounds g r v =
      subst (λ (n : ℕ). after_rounds g n v ≤ after_rounds g r v) way (never-rise g r (before - r) v) in
      omega (arith, old, new, end, other, falls, never_rises g before v);
}
  where
    size : length rank ≡ g.size
    size = kept.one_each ∙ (rounds last (omega arith)).one_each

    here : (v : ℕ) → v < g.size → v < length rank
    here v l = omega (arith, size, l)
