-- A vertex whose number no vertex has crossed keeps it.
use Rattle.std.proofs.Common.{◌≡◌, ◌≤◌, ◌<◌, ◌∙◌, ℕ, suc, Bool, List, length, map, get_or, leb, sym, ap, subst, arith, inl, inr, true, false}
use Rattle.std.proofs.Common.{true≢false, leb-true, le-leb}
use Rattle.std.specs.Prelude.{count_by}
use Rattle.std.proofs.lemmas.Bool.{cases_lt}
use Rattle.kc_lists.specs.Lists.{below}
use Rattle.kc_lists.proofs.Counting.{count-le-length, count-mono, length-below}
use Rattle.kc_graph.specs.SimpleGraph.{SimpleGraph, adjacent}
use Rattle.kc_graph.specs.Neighbours.{neighbours_of}
use Rattle.kc_graph.proofs.NeighbourLists.{neighbours_within}
use Rattle.kc_hindex.specs.Crossing.{Crosses}
use Rattle.kc_hindex.specs.Pieces.{AreReady, KeepsUncrossed}
use Rattle.kc_hindex.specs.Rounds.{HasRound, after_rounds}
use Rattle.kc_shard.specs.HIndex.{h_index}
use Rattle.kc_shard.proofs.HIndex.{count-map, h_index-reached, in_reach}
use Rattle.kc_hindex.proofs.Settling.{map-agree, never_rises, round-falls}

-- the neighbours that reached the number of a vertex still do, where no vertex has crossed it
pub uncrossed-keeps : (g : SimpleGraph) (r : ℕ) (old new : List ℕ) (crossed : List Bool) → HasRound g r old → HasRound g (suc r) new
    → Crosses old new crossed → KeepsUncrossed g new crossed
uncrossed-keeps g r old new crossed a b marks v l none =
    let f : ℕ → ℕ = λ w. get_or old w 0 in
    let f' : ℕ → ℕ = λ w. get_or new w 0 in
    let k : ℕ = get_or new v 0 in
    let near : List ℕ = neighbours_of g v in
    let is : h_index (map f near) ≡ k =
    ap (λ (xs : List ℕ). h_index xs) (map-agree f (after_rounds g r) near (λ w m. a.each w (neighbours_within g v w m).0)) ∙ sym (b.each v l) in
    let before : k ≤ count_by (leb k) (map f near) = subst (λ (n : ℕ). n ≤ count_by (leb n) (map f near)) is (h_index-reached (map f near)) in
    let more : count_by (λ w. leb k (f w)) near ≤ count_by (λ w. leb k (f' w)) near =
    count-mono (λ w. leb k (f w)) (λ w. leb k (f' w)) near (λ w m t. elim (cases_lt (f' w) k) [
      | inl low ↦
          let marked = marks w k (omega (arith, (neighbours_within g v w m).0, a.one_each)) low (leb-true k (f w) t) in
          absurd (true≢false (sym marked ∙ none))
      | inr up ↦ le-leb k (f' w) up
    ]) in
    omega (arith, round-falls g (suc r) new b v l, in_reach f' near k (omega (arith, before, count-map (leb k) f near, more)))

-- a round may be made of the degrees, where all numbers are marked
pub first-ready : (g : SimpleGraph) (numbers : List ℕ) (crossed : List Bool) → HasRound g 0 numbers
    → ((v : ℕ) → v < length numbers → get_or numbers v 0 < length crossed) → ((k : ℕ) → k < length crossed → get_or crossed k false ≡ true)
    → AreReady g numbers crossed
first-ready g numbers crossed has within all = record {
  one_each = has.one_each;
  marked = λ v l. within v (omega (arith, l, has.one_each));
  keeps = λ v l none. absurd (true≢false (sym (all (get_or numbers v 0) (within v (omega (arith, l, has.one_each)))) ∙ none));
  falls = round-falls g 0 numbers has;
}

-- a round may be made of the numbers that a round has made, where those that it crossed are marked
pub next-ready : (g : SimpleGraph) (r : ℕ) (old new : List ℕ) (crossed crossed' : List Bool) → HasRound g r old → HasRound g (suc r) new
    → AreReady g old crossed → Crosses old new crossed' → length crossed' ≡ length crossed → AreReady g new crossed'
next-ready g r old new crossed crossed' a b ready marks same = record {
  one_each = b.one_each;
  marked = λ v l. omega (arith, ready.marked v l, a.each v l, b.each v l, never_rises g r v, same);
  keeps = uncrossed-keeps g r old new crossed' a b marks;
  falls = round-falls g (suc r) new b;
}

-- degrees are at most the number of vertices
pub degrees-bounded : (g : SimpleGraph) (degrees : List ℕ) → HasRound g 0 degrees → (v : ℕ) → v < length degrees → get_or degrees v 0 ≤ g.size
degrees-bounded g degrees has v l =
    omega (arith, has.each v (omega (arith, l, has.one_each)), count-le-length (adjacent g v) (below g.size), length-below g.size)
