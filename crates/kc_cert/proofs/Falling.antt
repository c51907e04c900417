-- Numbers along an order.
use Rattle.std.proofs.Common.{◌≡◌, ◌≤◌, ◌<◌, ◌+◌, ◌-◌, ℕ, List, length, get_or, ap, arith, inl, inr}
use Rattle.std.proofs.lemmas.Bool.{cases_eq}
use Rattle.kc_cert.specs.Conditions.{NeverFalls}
use Rattle.kc_lists.proofs.Shared.{get_or-any}

-- the number of the vertex at a place of the order
abbrev number_at : List ℕ → List ℕ → ℕ → ℕ
number_at core order k = get_or core (get_or order k 0) 0

-- the numbers of the first `i` never fall, and `last` is that of the last of them
pub record RisenTo (core order : List ℕ) (i last : ℕ) : Type 0 where
  pub pairs : (j k : ℕ) → j < k → k < i → number_at core order j ≤ number_at core order k
  pub bounded : (j : ℕ) → j < i → number_at core order j ≤ last
  pub last_is : (k : ℕ) → k + 1 ≡ i → last ≡ number_at core order k
  pub first : i ≡ 0 → last ≡ 0

-- at the beginning nothing falls
pub risen_none : (core order : List ℕ) → RisenTo core order 0 0
risen_none core order = record {
  pairs = λ j k lt l. absurd (omega arith);
  bounded = λ j l. absurd (omega arith);
  last_is = λ k e. absurd (omega arith);
  first = λ _. omega arith;
}

-- with one more that is no less than the last, nothing falls
pub risen_more : (core order : List ℕ) (i last : ℕ) → RisenTo core order i last → last ≤ number_at core order i
    → RisenTo core order (i + 1) (number_at core order i)
risen_more core order i last h up = record {
  pairs = λ j k lt l. elim (cases_eq k i) [
    | inl e ↦ omega (arith, h.bounded j (omega arith), ap (number_at core order) e)
    | inr ne ↦ h.pairs j k lt (omega arith)
  ];
  bounded = λ j l. elim (cases_eq j i) [ inl e ↦ omega (arith, ap (number_at core order) e) | inr ne ↦ omega (arith, h.bounded j (omega arith)) ];
  last_is = λ k e. ap (number_at core order) (omega arith);
  first = λ e. absurd (omega arith);
}

-- where the numbers of all of an order never fall up to its end, they never fall along it
pub risen_all : (core order : List ℕ) (last : ℕ) → RisenTo core order (length order) last → NeverFalls core order
risen_all core order last h i j d lt l =
    omega (arith, h.pairs i j lt l, ap (λ x. get_or core x 0) (get_or-any order i d 0 (omega arith)), ap (λ x. get_or core x 0) (get_or-any order j d 0 l))

-- where one number is less than the one before, the numbers fall
pub numbers-fall : (core order : List ℕ) (i last : ℕ) → RisenTo core order i last → i < length order → number_at core order i < last → NeverFalls core order → ⊥
numbers-fall core order i last h l down rising = elim (cases_eq i 0) [
  | inl e ↦ omega (arith, h.first e)
  | inr ne ↦ omega (arith, h.last_is (i - 1) (omega arith), rising (i - 1) i 0 (omega arith) l)
]
