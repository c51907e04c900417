-- Counts that differ at one number, and counts of tests that never both pass.
use Rattle.std.proofs.Common.{◌≡◌, ◌≢◌, ◌≤◌, ◌<◌, ◌+◌, ℕ, Bool, true, false, List, [], ◌∷◌, refl, sym, ◌∙◌, ap, inl, inr, arith, true≢false}
use Rattle.std.specs.Prelude.{count_by}
use Rattle.std.proofs.lemmas.Bool.{cases_eq, false≢true}
use Rattle.kc_lists.specs.Lists.{member, Distinct}
use Rattle.kc_lists.proofs.Members.{member-head, member-tail, member-cases}
use Rattle.kc_lists.proofs.Counting.{member-other, count-agree, count-le, count-yes, count-no, count-cons, one_if}

-- counts that differ at one number at most
pub count-one-in : (p q : ℕ → Bool) (v : ℕ) (xs : List ℕ) → Distinct xs → member v xs ≡ true → q v ≡ false
    → ((y : ℕ) → member y xs ≡ true → y ≢ v → p y ≡ q y) → count_by p xs ≡ count_by q xs + one_if (p v)
count-one-in p q v [] d m qv same = absurd (false≢true m)
count-one-in p q v (x ∷ xs) d m qv same =
    elim (cases_eq x v) [
      | inl e ↦
          let rest : count_by p xs ≡ count_by q xs =
          count-agree p q xs
          (λ y in'. same y (member-tail y x xs in') (λ y-v. true≢false (sym in' ∙ (ap (λ n. member n xs) (y-v ∙ sym e) ∙ d.0)))) in
          let here : one_if (p x) ≡ one_if (p v) = ap (λ n. one_if (p n)) e in
          omega (arith, rest, here, count-cons p x xs, count-no q x xs (ap q e ∙ qv))
      | inr ne ↦
          let rest : count_by p xs ≡ count_by q xs + one_if (p v) =
          count-one-in p q v xs d.1 (member-other v x xs (λ e. ne (sym e)) m) qv (λ y in' y-v. same y (member-tail y x xs in') y-v) in
          let here : one_if (p x) ≡ one_if (q x) = ap one_if (same x (member-head x xs) ne) in
          omega (arith, rest, here, count-cons p x xs, count-cons q x xs)
    ]

-- where a member passes, the count is above 0
pub count-some : (p : ℕ → Bool) (v : ℕ) (xs : List ℕ) → member v xs ≡ true → p v ≡ true → 0 < count_by p xs
count-some p v [] m pv = absurd (false≢true m)
count-some p v (x ∷ xs) m pv = elim (member-cases v x xs m) [
  | inl e ↦ omega (arith, count-yes p x xs (ap p (sym e) ∙ pv))
  | inr m' ↦ omega (arith, count-some p v xs m' pv, count-cons p x xs)
]

-- where no member passes, the count is 0
pub count-none : (p : ℕ → Bool) (xs : List ℕ) → ((x : ℕ) → member x xs ≡ true → p x ≡ false) → count_by p xs ≡ 0
count-none p [] h = refl
count-none p (x ∷ xs) h = omega (arith, count-no p x xs (h x (member-head x xs)), count-none p xs (λ y m. h y (member-tail y x xs m)))

-- a count of one of two tests is the sum of their counts where they never both pass
pub count-sum : (p q r : ℕ → Bool) (xs : List ℕ) → ((x : ℕ) → member x xs ≡ true → one_if (r x) ≡ one_if (p x) + one_if (q x))
    → count_by r xs ≡ count_by p xs + count_by q xs
count-sum p q r [] h = refl
count-sum p q r (x ∷ xs) h =
    let rest : count_by r xs ≡ count_by p xs + count_by q xs = count-sum p q r xs (λ y m. h y (member-tail y x xs m)) in
    let here : one_if (r x) ≡ one_if (p x) + one_if (q x) = h x (member-head x xs) in
    omega (arith, rest, here, count-cons p x xs, count-cons q x xs, count-cons r x xs)

-- lists of the same numbers, each once, have the same counts
pub count-same : (p : ℕ → Bool) (xs ys : List ℕ) → Distinct xs → Distinct ys → ((z : ℕ) → member z xs ≡ member z ys) → count_by p xs ≡ count_by p ys
count-same p xs ys dx dy same =
    let up : count_by p xs ≤ count_by p ys = count-le p xs ys dx (λ z m _. sym (same z) ∙ m) in
    let down : count_by p ys ≤ count_by p xs = count-le p ys xs dy (λ z m _. same z ∙ m) in
    omega arith
