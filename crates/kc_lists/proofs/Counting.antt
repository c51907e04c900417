-- Membership and counts in lists of numbers, by recursion on the list.
use Rattle.std.proofs.Common.{◌≡◌, ◌≢◌, ◌≤◌, ◌<◌, ◌+◌, ℕ, suc, zero, Bool, true, false, cond, ◌||◌, List, [], ◌∷◌, length, get_or, eqb, refl, sym, append-nil}
use Rattle.std.proofs.Common.{◌∙◌, ap, ◌⊎◌, inl, inr, arith, true≢false, eqb-true, eq-eqb, ne_eqb, lt_irrefl, ◌++◌, drop, take}
use Rattle.std.specs.Prelude.{AllPairs, Contains, count_by}
use Rattle.std.specs.List.{filter}
use Rattle.std.specs.List.Sorted.{IsPermutation}
use Rattle.kc_lists.specs.Lists.{member, Distinct, below, times}
use Rattle.kc_lists.proofs.Members.{member-head, member-tail, member-cases}
use Rattle.std.proofs.lemmas.Bool.{eqb-false, cases_Bool, cases_eq, or_cases, or_left, or_right, false≢true, or_parts, or_from, false_from_ne_true}
use Rattle.std.proofs.lemmas.List.Sorted.{sum_by-IsPermutation}
use Rattle.std.proofs.lemmas.List.Sums.{sum_by-cons}
use Rattle.std.proofs.lemmas.List.Elements.{Contains-get_or, filter-append}
use Rattle.std.proofs.lemmas.List.Folds.{list_any-append}
use Rattle.std.proofs.Math.Bool.{or-false}

-- the list without the first `x`
abbrev erase : ℕ → List ℕ → List ℕ
erase x [] = []
erase x (y ∷ ys) = cond (eqb x y) ys (y ∷ erase x ys)

-- 1 where a test passes, and 0 else
abbrev pub one_if : Bool → ℕ
one_if b = cond b 1 0

-- a list with one more in front counts as the rest, and 1 more where the first passes
pub count-cons : (p : ℕ → Bool) (x : ℕ) (xs : List ℕ) → count_by p (x ∷ xs) ≡ cond (p x) 1 0 + count_by p xs
count-cons p x xs = sum_by-cons (λ y. cond (p y) 1 0) x xs

-- where the first of a list passes, the list counts 1 more than the rest
pub count-yes : (p : ℕ → Bool) (x : ℕ) (xs : List ℕ) → p x ≡ true → count_by p (x ∷ xs) ≡ 1 + count_by p xs
count-yes p x xs h = count-cons p x xs ∙ ap (λ b. cond b 1 0 + count_by p xs) h

-- where the first of a list fails, the list counts as the rest
pub count-no : (p : ℕ → Bool) (x : ℕ) (xs : List ℕ) → p x ≡ false → count_by p (x ∷ xs) ≡ count_by p xs
count-no p x xs h = count-cons p x xs ∙ (ap (λ b. cond b 1 0 + count_by p xs) h ∙ omega arith)

-- a member that is not the first is in the rest
pub member-other : (x y : ℕ) (ys : List ℕ) → (x ≡ y → ⊥) → member x (y ∷ ys) ≡ true → member x ys ≡ true
member-other x y ys ne h = elim (member-cases x y ys h) [ inl e ↦ absurd (ne e) | inr m ↦ m ]

-- a list counts 1 more than what is left after a member that passes is erased once
count-erase : (p : ℕ → Bool) (x : ℕ) (ys : List ℕ) → p x ≡ true → member x ys ≡ true → count_by p ys ≡ 1 + count_by p (erase x ys)
count-erase p x [] px h = absurd (false≢true h)
count-erase p x (y ∷ ys) px h =
    elim (eqb x y) as (λ b. eqb x y ≡ b → (b || member x ys) ≡ true → count_by p (y ∷ ys) ≡ 1 + count_by p (cond b ys (y ∷ erase x ys))) [
      | true ↦ λ e _. count-yes p y ys (ap p (sym (eqb-true x y e)) ∙ px)
      | false ↦
          λ e m.
          count-cons p y ys
          ∙
          (ap (λ n. cond (p y) 1 0 + n) (count-erase p x ys px m)
          ∙ (omega arith ∙ ap (λ n. 1 + n) (sym (count-cons p y (erase x ys)))))
    ] refl h

-- what is not the erased number stays a member
member-erase : (x z : ℕ) (ys : List ℕ) → (z ≡ x → ⊥) → member z ys ≡ true → member z (erase x ys) ≡ true
member-erase x z [] ne h = h
member-erase x z (y ∷ ys) ne h =
    elim (eqb x y) as (λ b. eqb x y ≡ b → member z (cond b ys (y ∷ erase x ys)) ≡ true) [
      | true ↦ λ e. member-other z y ys (λ z-y. ne (z-y ∙ sym (eqb-true x y e))) h
      | false ↦ λ e. elim (member-cases z y ys h) [ inl z-y ↦ or_left (eqb z y) _ (eq-eqb z y z-y) | inr m ↦ or_right (eqb z y) _ (member-erase x z ys ne m) ]
    ] refl

-- distinct numbers that pass are no more than those of a list that has each of them
pub count-le : (p : ℕ → Bool) (xs ys : List ℕ) → Distinct xs → ((x : ℕ) → member x xs ≡ true → p x ≡ true → member x ys ≡ true) → count_by p xs ≤ count_by p ys
count-le p [] ys d h = omega arith
count-le p (x ∷ xs) ys d h =
    elim (cases_Bool (p x)) [
      | inl px ↦
          let rest : count_by p xs ≤ count_by p (erase x ys) = count-le p xs (erase x ys) d.1
          (λ z m pz. member-erase x z ys (λ z-x. true≢false (sym m ∙ (ap (λ n. member n xs) z-x ∙ d.0))) (h z (member-tail z x xs m) pz)) in
          omega (arith, rest, count-yes p x xs px, count-erase p x ys px (h x (member-head x xs) px))
      | inr px ↦
          let rest : count_by p xs ≤ count_by p ys = count-le p xs ys d.1 (λ z m pz. h z (member-tail z x xs m) pz) in
          omega (arith, rest, count-no p x xs px)
    ]

-- a number that is read at a place within the length is a member
member-from_at : (xs : List ℕ) (x k : ℕ) → k < length xs → get_or xs k x ≡ x → member x xs ≡ true
member-from_at [] x k l h = absurd (omega arith)
member-from_at (y ∷ ys) x zero l h = or_left (eqb x y) (member x ys) (eq-eqb x y (sym h))
member-from_at (y ∷ ys) x (suc k) l h = or_right (eqb x y) (member x ys) (member-from_at ys x k (omega arith) h)

-- what a list contains, as clauses say it, is a member
pub member-from_Contains : (xs : List ℕ) (x : ℕ) → Contains xs x → member x xs ≡ true
member-from_Contains xs x (k, l, e) = member-from_at xs x k l e

-- a list contains each of its members, as clauses say it
pub Contains-from_member : (xs : List ℕ) (x : ℕ) → member x xs ≡ true → Contains xs x
Contains-from_member [] x h = absurd (false≢true h)
Contains-from_member (y ∷ ys) x h =
    elim (member-cases x y ys h) [
      | inl e ↦ (0, omega arith, sym e)
      | inr m ↦ let (k, l, e) = Contains-from_member ys x m in (suc k, omega arith, e)
    ]

-- what stands at a place within the length is a member
pub member-get_or : (xs : List ℕ) (k d : ℕ) → k < length xs → member (get_or xs k d) xs ≡ true
member-get_or xs k d l = member-from_Contains xs (get_or xs k d) (Contains-get_or xs k d l)

-- where no two places have the same number, the list is distinct
pub Distinct-from_pairs : (xs : List ℕ) → AllPairs (λ v w. v ≢ w) xs → Distinct xs
Distinct-from_pairs [] h = tt
Distinct-from_pairs (x ∷ xs) h = (
  false_from_ne_true (member x xs) (λ m. let c = Contains-from_member xs x m in h 0 (suc c.0) x (omega arith) (omega (arith, c.1)) (sym c.2)),
  Distinct-from_pairs xs (λ i j d lt l. h (suc i) (suc j) d (omega arith) (omega arith)),
)

-- a distinct list has no two places with the same number
pub pairs_from_Distinct : (xs : List ℕ) → Distinct xs → AllPairs (λ v w. v ≢ w) xs
pairs_from_Distinct [] h i j d lt l = absurd (omega arith)
pairs_from_Distinct (x ∷ xs) h zero zero d lt l = absurd (omega arith)
pairs_from_Distinct (x ∷ xs) h (suc i) zero d lt l = absurd (omega arith)
pairs_from_Distinct (x ∷ xs) h zero (suc j) d lt l = λ e. true≢false (sym (member-get_or xs j d (omega arith)) ∙ (ap (λ n. member n xs) (sym e) ∙ h.0))
pairs_from_Distinct (x ∷ xs) h (suc i) (suc j) d lt l = pairs_from_Distinct xs h.1 i j d (omega arith) (omega arith)

-- what is left by a filter was in the list, and passes
pub member-filter : (p : ℕ → Bool) (x : ℕ) (xs : List ℕ) → member x (filter p xs) ≡ true → (member x xs ≡ true) × (p x ≡ true)
member-filter p x [] h = absurd (false≢true h)
member-filter p x (y ∷ ys) h =
    elim (p y) as (λ b. p y ≡ b → member x (cond b (y ∷ filter p ys) (filter p ys)) ≡ true → (member x (y ∷ ys) ≡ true) × (p x ≡ true)) [
      | true ↦ λ py m. elim (member-cases x y (filter p ys) m) [
        | inl e ↦ (or_left (eqb x y) (member x ys) (eq-eqb x y e), ap p e ∙ py)
        | inr m' ↦ let k = member-filter p x ys m' in (member-tail x y ys k.0, k.1)
      ]
      | false ↦ λ _ m. let k = member-filter p x ys m in (member-tail x y ys k.0, k.1)
    ] refl h

-- a member that passes is left by the filter
pub filter-member : (p : ℕ → Bool) (x : ℕ) (xs : List ℕ) → member x xs ≡ true → p x ≡ true → member x (filter p xs) ≡ true
filter-member p x [] h px = h
filter-member p x (y ∷ ys) h px =
    elim (p y) as (λ b. p y ≡ b → member x (cond b (y ∷ filter p ys) (filter p ys)) ≡ true) [
      | true ↦ λ py. elim (member-cases x y ys h) [ inl e ↦ or_left (eqb x y) _ (eq-eqb x y e) | inr m ↦ or_right (eqb x y) _ (filter-member p x ys m px) ]
      | false ↦ λ py. filter-member p x ys (member-other x y ys (λ e. true≢false (sym px ∙ (ap p e ∙ py))) h) px
    ] refl

-- a distinct list stays distinct under a filter
pub Distinct-filter : (p : ℕ → Bool) (xs : List ℕ) → Distinct xs → Distinct (filter p xs)
Distinct-filter p [] d = tt
Distinct-filter p (x ∷ xs) d =
    elim (p x) as (λ b. Distinct (cond b (x ∷ filter p xs) (filter p xs))) [
      | true ↦ (false_from_ne_true _ (λ m. true≢false (sym (member-filter p x xs m).0 ∙ d.0)), Distinct-filter p xs d.1)
      | false ↦ Distinct-filter p xs d.1
    ]

-- what passes all of `r` passes `q` among what passes `p`
pub count-filter : (p q r : ℕ → Bool) → ((x : ℕ) → r x ≡ true → (p x ≡ true) × (q x ≡ true)) → (xs : List ℕ) → count_by r xs ≤ count_by q (filter p xs)
count-filter p q r both [] = omega arith
count-filter p q r both (x ∷ xs) =
    let rest : count_by r xs ≤ count_by q (filter p xs) = count-filter p q r both xs in
    elim (cases_Bool (r x)) [
      | inl rx ↦
          let e : filter p (x ∷ xs) ≡ x ∷ filter p xs = ap (λ b. cond b (x ∷ filter p xs) (filter p xs)) (both x rx).0 in
          omega (arith, rest, count-yes r x xs rx, ap (count_by q) e, count-yes q x (filter p xs) (both x rx).1)
      | inr rx ↦
          let least : count_by q (filter p xs) ≤ count_by q (filter p (x ∷ xs)) =
          elim (p x) as (λ b. count_by q (filter p xs) ≤ count_by q (cond b (x ∷ filter p xs) (filter p xs)))
          [ true ↦ omega (arith, count-cons q x (filter p xs)) | false ↦ omega arith ] in
          omega (arith, rest, least, count-no r x xs rx)
    ]

-- a test that lets more through counts no less
pub count-mono : (p q : ℕ → Bool) (xs : List ℕ) → ((x : ℕ) → member x xs ≡ true → p x ≡ true → q x ≡ true) → count_by p xs ≤ count_by q xs
count-mono p q [] h = omega arith
count-mono p q (x ∷ xs) h =
    let rest : count_by p xs ≤ count_by q xs = count-mono p q xs (λ y m py. h y (member-tail y x xs m) py) in
    elim (cases_Bool (p x)) [
      | inl px ↦ omega (arith, rest, count-yes p x xs px, count-yes q x xs (h x (member-head x xs) px))
      | inr px ↦ omega (arith, rest, count-no p x xs px, count-cons q x xs)
    ]

-- no more pass than the list has
pub count-le-length : (p : ℕ → Bool) (xs : List ℕ) → count_by p xs ≤ length xs
count-le-length p [] = omega arith
count-le-length p (x ∷ xs) =
    let rest : count_by p xs ≤ length xs = count-le-length p xs in
    elim (cases_Bool (p x)) [ inl px ↦ omega (arith, rest, count-yes p x xs px) | inr px ↦ omega (arith, rest, count-no p x xs px) ]

-- where a member fails, less pass than the list has
pub count-miss : (p : ℕ → Bool) (v : ℕ) (xs : List ℕ) → member v xs ≡ true → p v ≡ false → count_by p xs < length xs
count-miss p v [] m pv = absurd (false≢true m)
count-miss p v (x ∷ xs) m pv =
    elim (member-cases v x xs m) [
      | inl e ↦ omega (arith, count-le-length p xs, count-no p x xs (ap p (sym e) ∙ pv))
      | inr m' ↦
          let rest : count_by p xs < length xs = count-miss p v xs m' pv in
          elim (cases_Bool (p x)) [ inl px ↦ omega (arith, rest, count-yes p x xs px) | inr px ↦ omega (arith, rest, count-no p x xs px) ]
    ]

-- the members after a push at the end are those before, and what was pushed
pub member-push : (x y : ℕ) (xs : List ℕ) → member x (xs ++ y ∷ []) ≡ (member x xs || eqb x y)
member-push x y xs = list_any-append (eqb x) xs (y ∷ []) ∙ ap (λ b. member x xs || b) (or-false (eqb x y))

-- a member stays one when a number is pushed at the end
pub member-push_left : (x y : ℕ) (xs : List ℕ) → member x xs ≡ true → member x (xs ++ y ∷ []) ≡ true
member-push_left x y xs m = member-push x y xs ∙ or_left (member x xs) (eqb x y) m

-- a member after a push was one before, or is what was pushed
pub member-push_cases : (x y : ℕ) (xs : List ℕ) → member x (xs ++ y ∷ []) ≡ true → (member x xs ≡ true) ⊎ (x ≡ y)
member-push_cases x y xs m = elim (or_cases (member x xs) (eqb x y) (sym (member-push x y xs) ∙ m)) [ inl k ↦ inl k | inr e ↦ inr (eqb-true x y e) ]

-- what is no member after a push was none before, and is not what was pushed
pub member-push_none : (x y : ℕ) (xs : List ℕ) → member x (xs ++ y ∷ []) ≡ false → (member x xs ≡ false) × (eqb x y ≡ false)
member-push_none x y xs m = or_parts (member x xs) (eqb x y) (sym (member-push x y xs) ∙ m)

-- another number is in a list as before once a number comes at its end
pub member-push_other : (u w : ℕ) (ws : List ℕ) → (u ≡ w → ⊥) → member u (ws ++ w ∷ []) ≡ member u ws
member-push_other u w ws ne = member-push u w ws ∙ ap (λ b. member u ws || b) (ne_eqb u w ne) ∙ or-false (member u ws)

-- a number that passes, put at the end, comes at the end of those that pass
pub filter-push_yes : (p : ℕ → Bool) (w : ℕ) (ws : List ℕ) → p w ≡ true → filter p (ws ++ w ∷ []) ≡ filter p ws ++ w ∷ []
filter-push_yes p w ws h = filter-append p ws (w ∷ []) ∙ ap (λ b. filter p ws ++ cond b (w ∷ []) []) h

-- a number that doesn't pass, put at the end, changes nothing of those that pass
pub filter-push_no : (p : ℕ → Bool) (w : ℕ) (ws : List ℕ) → p w ≡ false → filter p (ws ++ w ∷ []) ≡ filter p ws
filter-push_no p w ws h = filter-append p ws (w ∷ []) ∙ ap (λ b. filter p ws ++ cond b (w ∷ []) []) h ∙ append-nil (filter p ws)

-- a distinct list stays distinct when a number that it has not is pushed
pub Distinct-push : (xs : List ℕ) (y : ℕ) → Distinct xs → member y xs ≡ false → Distinct (xs ++ y ∷ [])
Distinct-push [] y d m = (refl, tt)
Distinct-push (x ∷ xs) y d m =
    let k = or_parts (eqb y x) (member y xs) m in
    (member-push x y xs ∙ or_from (member x xs) (eqb x y) d.0 (ne_eqb x y (λ e. eqb-false y x k.0 (sym e))), Distinct-push xs y d.1 k.1)

-- a number less than `n` is among the numbers below `n`
pub member-below : (v n : ℕ) → v < n → member v (below n) ≡ true
member-below v zero l = absurd (omega arith)
member-below v (suc n) l = elim (cases_eq v n) [ inl e ↦ or_left (eqb v n) _ (eq-eqb v n e) | inr ne ↦ or_right (eqb v n) _ (member-below v n (omega arith)) ]

-- what is among the numbers below `n` is less than `n`
pub below-member : (v n : ℕ) → member v (below n) ≡ true → v < n
below-member v zero m = absurd (false≢true m)
below-member v (suc n) m = elim (member-cases v n (below n) m) [ inl e ↦ omega arith | inr k ↦ let l : v < n = below-member v n k in omega arith ]

-- the numbers below `n` are distinct
pub Distinct-below : (n : ℕ) → Distinct (below n)
Distinct-below zero = tt
Distinct-below (suc n) = (false_from_ne_true (member n (below n)) (λ m. lt_irrefl n (below-member n n m)), Distinct-below n)

-- there are `n` numbers below `n`
pub length-below : (n : ℕ) → length (below n) ≡ n
length-below zero = refl
length-below (suc n) = ap suc (length-below n)

-- what is left when a front is dropped was in the list
pub drop-member : (n x : ℕ) (xs : List ℕ) → member x (drop n xs) ≡ true → member x xs ≡ true
drop-member zero x xs m = m
drop-member (suc n) x [] m = m
drop-member (suc n) x (y ∷ ys) m = member-tail x y ys (drop-member n x ys m)

-- a distinct list stays distinct when a front is dropped
pub Distinct-drop : (n : ℕ) (xs : List ℕ) → Distinct xs → Distinct (drop n xs)
Distinct-drop zero xs d = d
Distinct-drop (suc n) [] d = d
Distinct-drop (suc n) (y ∷ ys) d = Distinct-drop n ys d.1

-- what stands later does not stand earlier
pub drop-not_take : (n x : ℕ) (xs : List ℕ) → Distinct xs → member x (drop n xs) ≡ true → member x (take n xs) ≡ false
drop-not_take zero x xs d m = refl
drop-not_take (suc n) x [] d m = refl
drop-not_take (suc n) x (y ∷ ys) d m =
    or_from (eqb x y) (member x (take n ys)) (ne_eqb x y (λ e. true≢false (sym (drop-member n x ys m) ∙ (ap (λ k. member k ys) e ∙ d.0))))
    (drop-not_take n x ys d.1 m)

-- in a distinct list, what stands at a place stands nowhere before it
pub take-not_here : (i : ℕ) (xs : List ℕ) → i < length xs → Distinct xs → member (get_or xs i 0) (take i xs) ≡ false
take-not_here zero xs l d = refl
take-not_here (suc i) [] l d = refl
take-not_here (suc i) (x ∷ xs) l d =
    let l' : i < length xs = omega arith in
    or_from (eqb (get_or xs i 0) x) (member (get_or xs i 0) (take i xs))
    (ne_eqb (get_or xs i 0) x (λ e. true≢false (sym (member-get_or xs i 0 l') ∙ (ap (λ k. member k xs) e ∙ d.0)))) (take-not_here i xs l' d.1)

-- two tests that agree count alike
pub count-agree : (p q : ℕ → Bool) (xs : List ℕ) → ((x : ℕ) → member x xs ≡ true → p x ≡ q x) → count_by p xs ≡ count_by q xs
count-agree p q [] h = refl
count-agree p q (x ∷ xs) h =
    count-cons p x xs ∙ ap (λ b. cond b 1 0 + count_by p xs) (h x (member-head x xs))
    ∙ ap (λ n. cond (q x) 1 0 + n) (count-agree p q xs (λ y m. h y (member-tail y x xs m))) ∙ sym (count-cons q x xs)

-- where one member passes no longer and nothing else changes, the count is 1 less
pub count-without : (p q : ℕ → Bool) (v : ℕ) (xs : List ℕ) → Distinct xs → member v xs ≡ true → p v ≡ true → q v ≡ false
    → ((x : ℕ) → (x ≡ v → ⊥) → p x ≡ q x) → count_by p xs ≡ count_by q xs + 1
count-without p q v [] d m pv qv h = absurd (false≢true m)
count-without p q v (x ∷ xs) d m pv qv h =
    elim (cases_eq x v) [
      | inl e ↦
          let rest : count_by p xs ≡ count_by q xs =
          count-agree p q xs (λ y in'. h y (λ y-v. true≢false (sym in' ∙ (ap (λ n. member n xs) (y-v ∙ sym e) ∙ d.0)))) in
          omega (arith, rest, count-yes p x xs (ap p e ∙ pv), count-no q x xs (ap q e ∙ qv))
      | inr ne ↦
          let rest : count_by p xs ≡ count_by q xs + 1 = count-without p q v xs d.1 (member-other v x xs (λ e. ne (sym e)) m) pv qv h in
          let same : ◌≡◌ {A = ℕ} (cond (p x) 1 0) (cond (q x) 1 0) = ap (λ b. cond b 1 0) (h x ne) in
          omega (arith, rest, same, count-cons p x xs, count-cons q x xs)
    ]

-- where each member passes, the count is the length
pub count-all : (p : ℕ → Bool) (xs : List ℕ) → ((x : ℕ) → member x xs ≡ true → p x ≡ true) → count_by p xs ≡ length xs
count-all p [] h = refl
count-all p (x ∷ xs) h =
    let rest : count_by p xs ≡ length xs = count-all p xs (λ y m. h y (member-tail y x xs m)) in
    omega (arith, rest, count-yes p x xs (h x (member-head x xs)))

-- How often a number stands in a list. -------------------------------------------------------------

-- a member stands there once at least
pub times_member : (y : ℕ) (xs : List ℕ) → member y xs ≡ true → 0 < times y xs
times_member y [] m = absurd (false≢true m)
times_member y (x ∷ xs) m =
    elim (member-cases y x xs m) [
      | inl e ↦ omega (arith, count-yes (eqb y) x xs (eq-eqb y x e))
      | inr k ↦ let some : 0 < times y xs = times_member y xs k in omega (arith, count-cons (eqb y) x xs)
    ]

-- a number that stands in a list once at least is a member
pub member_times : (y : ℕ) (xs : List ℕ) → 0 < times y xs → member y xs ≡ true
member_times y [] some = absurd (omega arith)
member_times y (x ∷ xs) some =
    elim (cases_Bool (eqb y x)) [
      | inl e ↦ or_left (eqb y x) (member y xs) e
      | inr e ↦ member-tail y x xs (member_times y xs (omega (arith, count-no (eqb y) x xs e)))
    ]

-- who is no member stands nowhere
pub times_other : (y : ℕ) (xs : List ℕ) → member y xs ≡ false → times y xs ≡ 0
times_other y xs away = elim (none (times y xs) refl) [ inl e ↦ e | inr some ↦ absurd (true≢false (sym (member_times y xs some) ∙ away)) ]
  where
    none : (n : ℕ) → times y xs ≡ n → (times y xs ≡ 0) ⊎ (0 < times y xs)
    none zero e = inl e
    none (suc n) e = inr (omega arith)

-- in a list without doubles each stands once at most
pub times_distinct : (y : ℕ) (xs : List ℕ) → Distinct xs → times y xs ≤ 1
times_distinct y [] d = omega arith
times_distinct y (x ∷ xs) d =
    elim (cases_Bool (eqb y x)) [
      | inl e ↦ omega (arith, count-yes (eqb y) x xs e, times_other y xs (ap (λ z. member z xs) (eqb-true y x e) ∙ d.0))
      | inr e ↦ let rest : times y xs ≤ 1 = times_distinct y xs d.1 in omega (arith, count-no (eqb y) x xs e)
    ]

-- a list in which each number stands once at most has no doubles
pub distinct_times : (xs : List ℕ) → ((y : ℕ) → times y xs ≤ 1) → Distinct xs
distinct_times [] few = tt
distinct_times (x ∷ xs) few = (
  false_from_ne_true (member x xs) (λ m. omega (arith, few x, count-yes (eqb x) x xs (eq-eqb x x refl), times_member x xs m)),
  distinct_times xs (λ y. omega (arith, few y, count-cons (eqb y) x xs)),
)

-- a permutation repeats no number either
pub Distinct-permutation : (xs ys : List ℕ) → IsPermutation xs ys → Distinct xs → Distinct ys
Distinct-permutation xs ys p d = distinct_times ys (λ x.
    let same : times x ys ≡ times x xs = sum_by-IsPermutation (λ (y : ℕ). cond (eqb x y) 1 0) xs ys p in
    omega (arith, same, times_distinct x xs d))
