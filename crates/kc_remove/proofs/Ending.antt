-- What the vertices that fell leave: both counts of the certificate, at each vertex.
use Rattle.std.proofs.Common.{◌≡◌, ◌≤◌, ◌<◌, ◌-◌, ℕ, Bool, true, false, cond, not, ◌&&◌, List, take, length, ltb, leb, sym, ◌∙◌}
use Rattle.std.proofs.Common.{ap, subst, inl, inr, arith, true≢false, le_trans, lt-ltb}
use Rattle.std.proofs.lemmas.Bool.{cases_Bool, cases_eq, cases_lt, false_from_ne_true}
use Rattle.kc_lists.specs.Lists.{member}
use Rattle.kc_cert.specs.Ranks.{rank_in, then_after}
use Rattle.kc_cert.proofs.Ordered.{rank-here}
use Rattle.kc_view.specs.Search.{Search, among, after, OnLevel}
use Rattle.kc_view.proofs.Among.{among-mono}
use Rattle.kc_remove.specs.Cascade.{Thinned, support, Cascade, nobody}
use Rattle.kc_view.proofs.Fronts.{take-member}
use Rattle.kc_remove.proofs.Falls.{kept_support}
use Rattle.kc_remove.proofs.Listed.{rank-taken}

-- the core number of a vertex after the fall
abbrev pub lowered : (ℕ → ℕ) → ℕ → List ℕ → ℕ → ℕ
lowered core level fall y = cond (member y fall) (level - 1) (core y)

-- whether a vertex stood below the level
abbrev pub is_low : Search → ℕ → Bool
is_low s y = ltb (s.core y) s.level

-- few later neighbours
pub few_after : (s : Search) (is_end : ℕ → Bool) (fall : List ℕ) (visited : ℕ → Bool) (sup : ℕ → ℕ) (looked : ℕ → ℕ → Bool) → Thinned s is_end
    → Cascade s fall (length fall) nobody visited sup looked nobody
    → (z : ℕ) → z < s.size → among s z (then_after (is_low s) fall (rank_in fall) s.rank z) ≤ lowered s.core s.level fall z
few_after s is_end fall visited sup looked t c z lz = elim (cases_Bool (member z fall)) [
  | inl m ↦
      let oz : OnLevel s z = c.fall_level z m in
      let down : lowered s.core s.level fall z ≡ s.level - 1 = ap (λ b. cond b (s.level - 1) (s.core z)) m in
      let j : ℕ = rank_in fall z in
      let here = rank-here z fall m in
      let fewer : among s z (then_after (is_low s) fall (rank_in fall) s.rank z) ≤ support s (take j fall) z =
      among-mono s z (then_after (is_low s) fall (rank_in fall) s.rank z) (λ y. leb s.level (s.core y) && not (member y (take j fall))) (λ y l a h.
      let some : 0 < s.level = t.some_level in
      elim (cases_Bool (member y fall)) [
        | inl my ↦
            let lvl : s.core y ≡ s.level = (c.fall_level y my).level in
            let lt : j < rank_in fall y = grind (arith, m, my, h) in
            let none : member y (take j fall) ≡ false =
            false_from_ne_true _ (λ k. let q : rank_in fall y < j = rank-taken j y fall k in absurd (omega arith)) in
            grind (arith, lvl, none)
        | inr ny ↦
            let none : member y (take j fall) ≡ false = false_from_ne_true _ (λ k. true≢false (sym (take-member j fall y k) ∙ ny)) in
            let high : s.level ≤ s.core y = grind (arith, m, ny, h, some) in
            grind (arith, high, none)
      ]) in
      let low : support s (take j fall) z < s.level = subst (λ (k : ℕ). support s (take j fall) k < s.level) here.1 (c.weak j here.0) in
      omega (arith, down, fewer, low)
  | inr none ↦
      let kept : lowered s.core s.level fall z ≡ s.core z = ap (λ b. cond b (s.level - 1) (s.core z)) none in
      let fewer : among s z (then_after (is_low s) fall (rank_in fall) s.rank z) ≤ among s z (after s z) =
      among-mono s z (then_after (is_low s) fall (rank_in fall) s.rank z) (after s z) (λ y l a h.
      let some : 0 < s.level = t.some_level in
      elim (cases_lt (s.core z) (s.core y)) [
        | inl lt ↦ lt-ltb (s.rank z) (s.rank y) (t.rising z y lz l lt)
        | inr ge ↦ elim (cases_Bool (member y fall)) [
          | inl my ↦ let lvl : s.core y ≡ s.level = (c.fall_level y my).level in grind (arith, none, my, lvl, h, some, ge)
          | inr ny ↦ grind (arith, none, ny, h, ge)
        ]
      ]) in
      omega (arith, kept, fewer, t.few z lz)
]

-- and enough that are as high
pub enough_after : (s : Search) (is_end : ℕ → Bool) (fall : List ℕ) (visited : ℕ → Bool) (sup : ℕ → ℕ) (looked : ℕ → ℕ → Bool) → Thinned s is_end
    → Cascade s fall (length fall) nobody visited sup looked nobody
    → ((z : ℕ) → OnLevel s z → is_end z ≡ true → visited z ≡ true)
    → (z : ℕ) → z < s.size → lowered s.core s.level fall z ≤ among s z (λ y. leb (lowered s.core s.level fall z) (lowered s.core s.level fall y))
enough_after s is_end fall visited sup looked t c ends z lz =
    let low : ℕ → ℕ = lowered s.core s.level fall in
    elim (cases_Bool (member z fall)) [
      | inl m ↦
          let oz : OnLevel s z = c.fall_level z m in
          let down : low z ≡ s.level - 1 = ap (λ b. cond b (s.level - 1) (s.core z)) m in
          let more : among s z (λ y. leb s.level (s.core y)) ≤ among s z (λ y. leb (s.level - 1) (low y)) =
          among-mono s z (λ y. leb s.level (s.core y)) (λ y. leb (s.level - 1) (low y))
          (λ y l a h. elim (cases_Bool (member y fall)) [ inl k ↦ grind (arith, k) | inr k ↦ grind (arith, k, h) ]) in
          subst (λ (k : ℕ). k ≤ among s z (λ y. leb k (low y))) (sym down) (omega (arith, more, t.nearly z oz))
      | inr none ↦
          let kept : low z ≡ s.core z = ap (λ b. cond b (s.level - 1) (s.core z)) none in
          subst (λ (k : ℕ). k ≤ among s z (λ y. leb k (low y))) (sym kept)
          (elim (cases_eq (s.core z) s.level) [
            | inl lvl ↦
                let more : support s fall z ≤ among s z (λ y. leb (s.core z) (low y)) =
                among-mono s z (λ y. leb s.level (s.core y) && not (member y fall)) (λ y. leb (s.core z) (low y))
                (λ y l a h. elim (cases_Bool (member y fall)) [ inl k ↦ grind (arith, k, h) | inr k ↦ grind (arith, k, h, lvl) ]) in
                omega (arith, more, kept_support s is_end fall visited sup looked t c ends z (record { here = lz; level = lvl }) none, lvl)
            | inr ne ↦
                let more : among s z (λ y. leb (s.core z) (s.core y)) ≤ among s z (λ y. leb (s.core z) (low y)) =
                among-mono s z (λ y. leb (s.core z) (s.core y)) (λ y. leb (s.core z) (low y)) (λ y l a h. elim (cases_Bool (member y fall)) [
                  | inl k ↦ let lvl : s.core y ≡ s.level = (c.fall_level y k).level in grind (arith, k, h, lvl, ne)
                  | inr k ↦ grind (arith, k, h)
                ]) in
                le_trans (t.enough z lz (inl ne)) more
          ])
    ]
