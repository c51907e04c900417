-- Rounds never rise, and one of the first, as many as the sum of degrees and one, changes nothing.
use Rattle.std.proofs.Common.{◌≡◌, ◌≤◌, ◌<◌, ◌+◌, ◌*◌, ◌^◌, ◌-◌, get_or, ap₂, ℕ, suc, zero, true, List, [], ◌∷◌, length, map, refl, sym, ◌∙◌, ap}
use Rattle.std.proofs.Common.{subst, ◌⊎◌, inl, inr, arith, le_refl}
use Rattle.std.specs.Prelude.{count_by}
use Rattle.std.proofs.lemmas.Bool.{cases_eq}
use Rattle.std.proofs.lemmas.List.{ext_get_or}
use Rattle.kc_lists.proofs.Members.{member-head, member-tail}
use Rattle.kc_lists.specs.Lists.{member, below, total}
use Rattle.kc_lists.proofs.Counting.{member-below, count-le-length, length-below, count-le, count-all}
use Rattle.kc_lists.proofs.Shared.{total-agree}
use Rattle.kc_graph.specs.SimpleGraph.{SimpleGraph, adjacent, degree_among}
use Rattle.kc_graph.specs.Neighbours.{neighbours_of}
use Rattle.kc_graph.proofs.NeighbourLists.{neighbours_within, neighbours_once}
use Rattle.kc_hindex.specs.Rounds.{h_round, after_rounds, IsSettled, AreRounds, HasRound, IsRoundOf}
use Rattle.kc_shard.specs.HIndex.{h_index}
use Rattle.kc_shard.proofs.HIndex.{h_index-length, h_index-mono, length-map}

-- two ways to number that agree on a list
pub map-agree : (c d : ℕ → ℕ) (ws : List ℕ) → ((w : ℕ) → member w ws ≡ true → c w ≡ d w) → map c ws ≡ map d ws
map-agree c d [] h = refl
map-agree c d (w ∷ ws) h = ap₂ (λ (x : ℕ) (xs : List ℕ). x ∷ xs) (h w (member-head w ws)) (map-agree c d ws (λ u m. h u (member-tail u w ws m)))

-- a round gives no more than the degree
pub round-degree : (g : SimpleGraph) (c : ℕ → ℕ) (v : ℕ) → h_round g c v ≤ degree_among g (below g.size) v
round-degree g c v =
    let near : List ℕ = neighbours_of g v in
    let all : count_by (adjacent g v) near ≡ length near = count-all (adjacent g v) near (λ w m. (neighbours_within g v w m).1) in
    let some : count_by (adjacent g v) near ≤ count_by (adjacent g v) (below g.size) =
    count-le (adjacent g v) near (below g.size) (neighbours_once g v) (λ w m _. member-below w g.size (neighbours_within g v w m).0) in
    omega (arith, h_index-length (map c near), length-map c near, all, some)

-- one round more raises no number
pub never_rises : (g : SimpleGraph) (r v : ℕ) → after_rounds g (suc r) v ≤ after_rounds g r v
never_rises g zero v = round-degree g (after_rounds g zero) v
never_rises g (suc r) v = h_index-mono (after_rounds g (suc r)) (after_rounds g r) (neighbours_of g v) (λ w _. never_rises g r w)

-- numbers that are no greater have no greater sum
total-le : (c d : ℕ → ℕ) (n : ℕ) → ((v : ℕ) → c v ≤ d v) → total c n ≤ total d n
total-le c d zero h = le_refl 0
total-le c d (suc n) h = let rest : total c n ≤ total d n = total-le c d n h in omega (arith, rest, h n)

-- all below `n` are the same, or the sum falls
same_or_less : (c d : ℕ → ℕ) (n : ℕ) → ((v : ℕ) → c v ≤ d v) → ((v : ℕ) → v < n → c v ≡ d v) ⊎ (total c n < total d n)
same_or_less c d zero h = inl (λ v l. absurd (omega arith))
same_or_less c d (suc n) h =
    elim (cases_eq (c n) (d n)) [
      | inl e ↦ elim (same_or_less c d n h) [
        | inl all ↦ inl (λ v l. elim (cases_eq v n) [ inl v-n ↦ subst (λ (x : ℕ). c x ≡ d x) (sym v-n) e | inr ne ↦ all v (omega arith) ])
        | inr less ↦ inr (omega (arith, e, less))
      ]
      | inr ne ↦ let rest : total c n ≤ total d n = total-le c d n h in inr (omega (arith, rest, h n, ne))
    ]

-- a round that changes nothing, with none before it, is the first one
pub settled-here : (g : SimpleGraph) (r : ℕ) → ((s : ℕ) → IsSettled g s → r ≤ s)
    → ((v : ℕ) → v < g.size → after_rounds g (suc r) v ≡ after_rounds g r v) → AreRounds g (suc r)
settled-here g r none same = record {
  positive = omega arith;
  settled = λ s e. subst (λ (x : ℕ). IsSettled g x) (omega arith) same;
  first = λ s h. let l : r ≤ s = none s h in omega arith;
}

-- where the sum falls in a round, the first one that changes nothing comes behind it
pub settled-later : (g : SimpleGraph) (r : ℕ) → ((s : ℕ) → IsSettled g s → r ≤ s)
    → total (after_rounds g (suc r)) g.size < total (after_rounds g r) g.size → (s : ℕ) → IsSettled g s → suc r ≤ s
settled-later g r none less s h =
    let l : r ≤ s = none s h in
    elim (cases_eq r s) [
      | inl e ↦
          let h' : IsSettled g r = subst (λ (x : ℕ). IsSettled g x) (sym e) h in
          let still : total (after_rounds g (suc r)) g.size ≡ total (after_rounds g r) g.size =
          total-agree (after_rounds g (suc r)) (after_rounds g r) g.size h' in
          absurd (omega arith)
      | inr ne ↦ omega arith
    ]

-- the first round that changes nothing, where none of the first `r` was it
search_from : (g : SimpleGraph) (fuel r : ℕ) → total (after_rounds g r) g.size ≤ fuel → ((s : ℕ) → IsSettled g s → r ≤ s)
    → (n : ℕ) × AreRounds g n × (n ≤ r + fuel + 1)
search_from g zero r enough none =
    elim (same_or_less (after_rounds g (suc r)) (after_rounds g r) g.size (never_rises g r)) [
      | inl same ↦ (suc r, settled-here g r none same, omega arith)
      | inr less ↦ absurd (omega arith)
    ]
search_from g (suc fuel) r enough none =
    elim (same_or_less (after_rounds g (suc r)) (after_rounds g r) g.size (never_rises g r)) [
      | inl same ↦ (suc r, settled-here g r none same, omega arith)
      | inr less ↦
          let found : (n : ℕ) × AreRounds g n × (n ≤ suc r + fuel + 1) = search_from g fuel (suc r) (omega arith) (settled-later g r none less) in
          (found.0, found.1, omega (arith, found.2))
    ]

-- there is a first round that changes nothing, no later than the sum of degrees and one
pub rounds_exist : (g : SimpleGraph) → (n : ℕ) × AreRounds g n × (n ≤ total (after_rounds g 0) g.size + 1)
rounds_exist g =
    let found : (n : ℕ) × AreRounds g n × (n ≤ 0 + total (after_rounds g 0) g.size + 1) =
    search_from g (total (after_rounds g 0) g.size) 0 (le_refl (total (after_rounds g 0) g.size)) (λ s _. omega arith) in
    (found.0, found.1, omega (arith, found.2))

-- the numbers of a graph settle at one round
pub rounds_only : (g : SimpleGraph) (m n : ℕ) → AreRounds g m → AreRounds g n → m ≡ n
rounds_only g zero n a b = absurd (omega (arith, a.positive))
rounds_only g (suc m) zero a b = absurd (omega (arith, b.positive))
rounds_only g (suc m) (suc n) a b = omega (arith, a.first n (b.settled n refl), b.first m (a.settled m refl))

-- numbers below 2^32 have a sum of at most 2^32 for each of them
total-few : (c : ℕ → ℕ) (n : ℕ) → ((v : ℕ) → v < n → c v < 2 ^ 32) → total c n ≤ n * 2 ^ 32
total-few c zero h = omega arith
total-few c (suc n) h = let rest : total c n ≤ n * 2 ^ 32 = total-few c n (λ v l. h v (omega arith)) in omega (arith, rest, h n (omega arith))

-- what the counter of rounds may reach
pub total-fits : (g : SimpleGraph) → g.size < 2 ^ 32 → total (after_rounds g 0) g.size < 2 ^ 64 - 1
total-fits g small =
    let each : (v : ℕ) → v < g.size → after_rounds g 0 v < 2 ^ 32 =
    λ v l. omega (arith, small, count-le-length (adjacent g v) (below g.size), length-below g.size) in
    omega (arith, small, total-few (after_rounds g 0) g.size each)

-- a round that changed something
pub round-changed : (g : SimpleGraph) (r : ℕ) (old new : List ℕ) → HasRound g r old → HasRound g (suc r) new → (old ≡ new → ⊥)
    → total (after_rounds g (suc r)) g.size < total (after_rounds g r) g.size
round-changed g r old new a b differ =
    elim (same_or_less (after_rounds g (suc r)) (after_rounds g r) g.size (never_rises g r)) [
      | inl same ↦ absurd (differ (ext_get_or 0 old new (a.one_each ∙ sym b.one_each) (λ v l.
          let in' : v < g.size = omega (arith, a.one_each) in
          a.each v in' ∙ sym (same v in') ∙ sym (b.each v in'))))
      | inr less ↦ less
    ]

-- where a round gives the numbers that were there, it has settled
pub round-unchanged : (g : SimpleGraph) (r : ℕ) (old new : List ℕ) → HasRound g r old → HasRound g (suc r) new → old ≡ new → IsSettled g r
round-unchanged g r old new a b same v l = sym (b.each v l) ∙ ap (λ (xs : List ℕ). get_or xs v 0) (sym same) ∙ a.each v l

-- what a round makes of the numbers after some rounds are those after one more
pub round-next : (g : SimpleGraph) (r : ℕ) (old new : List ℕ) → HasRound g r old → IsRoundOf g old new → HasRound g (suc r) new
round-next g r old new a b = record {
  one_each = b.one_each;
  each =
      λ v l.
      b.each v l
      ∙ ap (λ (xs : List ℕ). h_index xs)
      (map-agree (λ w. get_or old w 0) (after_rounds g r) (neighbours_of g v) (λ w m. a.each w (neighbours_within g v w m).0));
}

-- the numbers of the next round, as the loop counts it
pub round-over : (g : SimpleGraph) (r : ℕ) (new : List ℕ) → HasRound g (suc r) new → HasRound g (r + 1) new
round-over g r new h =
    let next : suc r ≡ r + 1 = omega arith in
    subst (λ (n : ℕ). HasRound g n new) next h

-- the sum after a round that changed something
pub falls-by-one : (g : SimpleGraph) (r : ℕ) (old new : List ℕ) → HasRound g r old → HasRound g (suc r) new → (old ≡ new → ⊥)
    → total (after_rounds g (r + 1)) g.size < total (after_rounds g r) g.size
falls-by-one g r old new a b differ =
    let next : suc r ≡ r + 1 = omega arith in
    subst (λ (n : ℕ). total (after_rounds g n) g.size < total (after_rounds g r) g.size) next (round-changed g r old new a b differ)

-- where the sum falls in a round, as the loop counts it, none of the rounds up to it has settled
pub later-settled : (g : SimpleGraph) (r : ℕ) → ((s : ℕ) → IsSettled g s → r ≤ s)
    → total (after_rounds g (r + 1)) g.size < total (after_rounds g r) g.size → (s : ℕ) → IsSettled g s → r + 1 ≤ s
later-settled g r none less s h =
    let next : r + 1 ≡ suc r = omega arith in
    omega (arith, settled-later g r none (subst (λ (n : ℕ). total (after_rounds g n) g.size < total (after_rounds g r) g.size) next less) s h)

-- a round raises no number that rounds have led to
pub round-falls : (g : SimpleGraph) (r : ℕ) (numbers : List ℕ) → HasRound g r numbers → (v : ℕ) → v < g.size
    → h_round g (λ w. get_or numbers w 0) v ≤ get_or numbers v 0
round-falls g r numbers h v l =
    let same : h_round g (λ w. get_or numbers w 0) v ≡ after_rounds g (suc r) v =
    ap (λ (xs : List ℕ). h_index xs)
    (map-agree (λ w. get_or numbers w 0) (after_rounds g r) (neighbours_of g v) (λ w m. h.each w (neighbours_within g v w m).0)) in
    omega (arith, same, never_rises g r v, h.each v l)
