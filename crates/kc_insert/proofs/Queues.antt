-- Lists in the order of a rank, and a number put in at its place.
use Rattle.std.proofs.Common.{◌≡◌, ◌≢◌, ◌≤◌, ◌<◌, ◌&&◌, ◌||◌, ℕ, suc, zero, Bool, true, false, not, List, [], ◌∷◌, length, take, drop, get_or, eqb}
use Rattle.std.proofs.Common.{refl, sym, ◌∙◌, ap, inl, inr, arith, true≢false, eqb-true, eq-eqb, ne_eqb}
use Rattle.std.specs.List.{insert}
use Rattle.std.proofs.lemmas.Bool.{cases_eq, or_cases, or_from, false_from_ne_true}
use Rattle.std.proofs.Math.Bool.{and-true, or_assoc}
use Rattle.kc_lists.specs.Lists.{member, Distinct}
use Rattle.kc_lists.proofs.Members.{member-head, member-tail}
use Rattle.kc_lists.proofs.Counting.{member-get_or, drop-member}
use Rattle.kc_lists.proofs.Shared.{or-turned}
use Rattle.kc_cert.specs.Ranks.{rank_in, AscendsBy}
use Rattle.kc_cert.proofs.Ordered.{rank-here}

-- one that stands further on has the greater rank
pub Ascends-at : (r : ℕ → ℕ) (xs : List ℕ) (i j : ℕ) → AscendsBy r xs → i < j → j < length xs → r (get_or xs i 0) < r (get_or xs j 0)
Ascends-at r [] i j a lt l = absurd (omega arith)
Ascends-at r (x ∷ xs) i zero a lt l = absurd (omega arith)
Ascends-at r (x ∷ xs) zero (suc j) a lt l = a.0 (get_or xs j 0) (member-get_or xs j 0 (omega arith))
Ascends-at r (x ∷ xs) (suc i) (suc j) a lt l = Ascends-at r xs i j a.1 (omega arith) (omega arith)

-- what stands behind the first `n` of a list in order is in order
pub Ascends-drop : (r : ℕ → ℕ) (n : ℕ) (xs : List ℕ) → AscendsBy r xs → AscendsBy r (drop n xs)
Ascends-drop r zero xs a = a
Ascends-drop r (suc n) [] a = a
Ascends-drop r (suc n) (x ∷ xs) a = Ascends-drop r n xs a.1

-- with a number put in, a list has that number and those that it had
pub inserted-has : (xs : List ℕ) (i y z : ℕ) → member z (insert xs i y) ≡ (member z xs || eqb z y)
inserted-has xs zero y z = or-turned (eqb z y) (member z xs)
inserted-has [] (suc i) y z = or-turned (eqb z y) false
inserted-has (x ∷ xs) (suc i) y z = ap (λ b. eqb z x || b) (inserted-has xs i y z) ∙ sym (or_assoc (eqb z x) (member z xs) (eqb z y))

-- a list with distinct items still has such with a new number put in
pub inserted-once : (xs : List ℕ) (i y : ℕ) → Distinct xs → member y xs ≡ false → Distinct (insert xs i y)
inserted-once xs zero y d out = (out, d)
inserted-once [] (suc i) y d out = (out, d)
inserted-once (x ∷ xs) (suc i) y d out = (
  inserted-has xs i y x ∙ or_from (member x xs) (eqb x y) d.0
      (ne_eqb x y (λ e. true≢false (sym (ap (λ k. member k (x ∷ xs)) (sym e) ∙ member-head x xs) ∙ out))),
  inserted-once xs i y d.1 (false_from_ne_true _ (λ m. true≢false (sym (member-tail y x xs m) ∙ out))),
)

-- where it goes behind the first `n`, these stay
pub inserted-front : (xs : List ℕ) (n i y : ℕ) → n ≤ i → n ≤ length xs → take n (insert xs i y) ≡ take n xs
inserted-front xs zero i y le l = refl
inserted-front [] (suc n) i y le l = absurd (omega arith)
inserted-front (x ∷ xs) (suc n) zero y le l = absurd (omega arith)
inserted-front (x ∷ xs) (suc n) (suc i) y le l = ap (λ ys. x ∷ ys) (inserted-front xs n i y (omega arith) (omega arith))

-- a list in order stays so where a number is put in behind the lesser ranks and before the others
pub inserted-ascends : (r : ℕ → ℕ) (xs : List ℕ) (i y : ℕ) → AscendsBy r xs → i ≤ length xs → ((k : ℕ) → k < i → r (get_or xs k 0) < r y)
    → ((k : ℕ) → i ≤ k → k < length xs → r y ≤ r (get_or xs k 0))
    → ((z : ℕ) → member z xs ≡ true → r z ≢ r y) → AscendsBy r (insert xs i y)
inserted-ascends r xs zero y a l before behind apart = (
  λ z m. let h = rank-here z xs m in
      let le : r y ≤ r (get_or xs (rank_in xs z) 0) = behind (rank_in xs z) (omega arith) h.0 in
      omega (arith, le, ap r h.1, apart z m),
  a,
)
inserted-ascends r [] (suc i) y a l before behind apart = absurd (omega arith)
inserted-ascends r (x ∷ xs) (suc i) y a l before behind apart = (
  λ z m. elim (or_cases (member z xs) (eqb z y) (sym (inserted-has xs i y z) ∙ m)) [
    | inl k ↦ a.0 z k
    | inr e ↦ let lt : r x < r y = before 0 (omega arith) in omega (arith, lt, ap r (eqb-true z y e))
  ],
  inserted-ascends r xs i y a.1 (omega arith) (λ k lt. before (suc k) (omega arith)) (λ k le lk. behind (suc k) (omega arith) (omega arith))
      (λ z m. apart z (member-tail z x xs m)),
)

-- the first item is not among those behind the first `n` + 1
first_item-not_behind : (e m t : Bool) → e ≡ true → ((e || m) && not (e || t)) ≡ false
first_item-not_behind e m t h = grind arith

-- another item is behind the first `n` + 1 where it is behind the first `n` of the rest
other_item-behind : (e m t : Bool) → e ≡ false → ((e || m) && not (e || t)) ≡ (m && not t)
other_item-behind e m t h = grind arith

-- what stands behind the first `n` of distinct items is what is in the list and not among these
pub drop-has : (n z : ℕ) (xs : List ℕ) → Distinct xs → member z (drop n xs) ≡ (member z xs && not (member z (take n xs)))
drop-has zero z xs d = sym (and-true (member z xs))
drop-has (suc n) z [] d = refl
drop-has (suc n) z (x ∷ xs) d = elim (cases_eq z x) [
  | inl e ↦
      let out : member z (drop n xs) ≡ false = false_from_ne_true _ (λ m. true≢false (sym (drop-member n z xs m) ∙ (ap (λ k. member k xs) e ∙ d.0))) in
      out ∙ sym (first_item-not_behind (eqb z x) (member z xs) (member z (take n xs)) (eq-eqb z x e))
  | inr ne ↦ drop-has n z xs d.1 ∙ sym (other_item-behind (eqb z x) (member z xs) (member z (take n xs)) (ne_eqb z x ne))
]
