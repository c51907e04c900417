-- Counts of numbers, each above a bound counted as the bound.
use Rattle.std.proofs.Common.{◌≡◌, ◌<◌, ◌+◌, ℕ, suc, zero, drop, map, take, min, false, List, [], ◌∷◌, eqb, leb, refl, sym, ◌∙◌, ap}
use Rattle.std.proofs.Common.{subst, arith, inl, inr, le-leb, leb-true, eq-eqb, ne_eqb}
use Rattle.std.specs.Prelude.{count_by}
use Rattle.std.proofs.lemmas.Bool.{cases_eq, cases_lt, false_from_ne_true}
use Rattle.kc_lists.proofs.Counting.{count-agree, count-cons, one_if}
use Rattle.kc_shard.specs.HIndex.{how_many_reach}

-- a number reaches `k` if it is `k` or reaches the next number
number-reaches : (k n : ℕ) → one_if (leb (k + 1) n) + one_if (eqb n k) ≡ one_if (leb k n)
number-reaches k n = elim (cases_eq n k) [
  | inl e ↦
      let a : leb (k + 1) n ≡ false = false_from_ne_true _ (λ t. absurd (omega (arith, leb-true (k + 1) n t, e))) in
      omega (arith, ap one_if a, ap one_if (eq-eqb n k e), ap one_if (le-leb k n (omega (arith, e))))
  | inr ne ↦ elim (cases_lt k n) [
    | inl up ↦ omega (arith, ap one_if (le-leb (k + 1) n (omega (arith, up))), ap one_if (ne_eqb n k ne), ap one_if (le-leb k n (omega (arith, up))))
    | inr low ↦
        let a : leb (k + 1) n ≡ false = false_from_ne_true _ (λ t. absurd (omega (arith, leb-true (k + 1) n t, low))) in
        let b : leb k n ≡ false = false_from_ne_true _ (λ t. absurd (omega (arith, leb-true k n t, low, ne))) in
        omega (arith, ap one_if a, ap one_if (ne_eqb n k ne), ap one_if b)
  ]
]

-- those that reach `k` are those that reach the next number and those that are `k`
reach-step : (c : ℕ → ℕ) (k : ℕ) (ws : List ℕ) → count_by (λ w. leb (k + 1) (c w)) ws + count_by (λ w. eqb (c w) k) ws ≡ count_by (λ w. leb k (c w)) ws
reach-step c k [] = refl
reach-step c k (w ∷ ws) =
    let rest : count_by (λ w. leb (k + 1) (c w)) ws + count_by (λ w. eqb (c w) k) ws ≡ count_by (λ w. leb k (c w)) ws = reach-step c k ws in
    omega (
      arith,
      rest,
      number-reaches k (c w),
      count-cons (λ w. leb (k + 1) (c w)) w ws,
      count-cons (λ w. eqb (c w) k) w ws,
      count-cons (λ w. leb k (c w)) w ws,
    )

-- those that reach a number, where `n` is the next one
pub reach-from : (c : ℕ → ℕ) (k n : ℕ) (ws : List ℕ) → n ≡ k + 1
    → count_by (λ w. leb n (c w)) ws + count_by (λ w. eqb (c w) k) ws ≡ count_by (λ w. leb k (c w)) ws
reach-from c k n ws e =
    subst (λ (m : ℕ). count_by (λ w. leb m (c w)) ws + count_by (λ w. eqb (c w) k) ws ≡ count_by (λ w. leb k (c w)) ws) (sym e)
    (reach-step c k ws)

-- below the bound a number is counted as itself
pub bounded-below : (c : ℕ → ℕ) (limit k : ℕ) (ws : List ℕ) → k < limit → count_by (λ w. eqb (min (c w) limit) k) ws ≡ count_by (λ w. eqb (c w) k) ws
bounded-below c limit k ws l = count-agree (λ w. eqb (min (c w) limit) k) (λ w. eqb (c w) k) ws (λ w _. elim (cases_eq (c w) k) [
  | inl e ↦ eq-eqb (min (c w) limit) k (omega (arith, e, l)) ∙ sym (eq-eqb (c w) k e)
  | inr ne ↦ ne_eqb (min (c w) limit) k (λ e. ne (omega (arith, e, l))) ∙ sym (ne_eqb (c w) k ne)
])

-- as the bound each number is counted that reaches it
pub bounded-at : (c : ℕ → ℕ) (limit : ℕ) (ws : List ℕ) → count_by (λ w. eqb (min (c w) limit) limit) ws ≡ count_by (λ w. leb limit (c w)) ws
bounded-at c limit ws = count-agree (λ w. eqb (min (c w) limit) limit) (λ w. leb limit (c w)) ws (λ w _. elim (cases_lt (c w) limit) [
  | inl low ↦
      ne_eqb (min (c w) limit) limit (λ e. absurd (omega (arith, e, low)))
      ∙ sym (false_from_ne_true _ (λ t. absurd (omega (arith, leb-true limit (c w) t, low))))
  | inr up ↦ eq-eqb (min (c w) limit) limit (omega (arith, up)) ∙ sym (le-leb limit (c w) (omega (arith, up)))
])

-- of a list's numbers those reach `k` that do so in its front or in its rest
pub reach-parts : (c : ℕ → ℕ) (k n : ℕ) (ws : List ℕ)
    → how_many_reach k (map c (take n ws)) + how_many_reach k (map c (drop n ws)) ≡ how_many_reach k (map c ws)
reach-parts c k zero ws = omega arith
reach-parts c k (suc n) [] = refl
reach-parts c k (suc n) (w ∷ ws) =
    omega (arith, reach-parts c k n ws, count-cons (leb k) (c w) (map c (take n ws)), count-cons (leb k) (c w) (map c ws))
