-- Numbers in a row: distinct numbers of it that are as many as it has are all of it, and pass a test as often.
use Rattle.std.proofs.Common.{◌≡◌, ◌≤◌, ◌<◌, ◌+◌, ◌-◌, ℕ, suc, zero, Bool, true, false, cond, List, [], ◌∷◌, length, get_or, map, eqb, refl, sym, ◌∙◌}
use Rattle.std.proofs.Common.{ap, ap₂, inl, inr, arith, eq-eqb, lt_irrefl}
use Rattle.std.specs.Prelude.{count_by}
use Rattle.std.specs.List.{AllByRecursion}
use Rattle.std.proofs.lemmas.Bool.{cases_eq, or_left, or_right, false≢true, false_from_ne_true, true_from_ne_false}
use Rattle.std.proofs.lemmas.List.Sums.{sum_by-cons}
use Rattle.kc_lists.specs.Lists.{member, Distinct}
use Rattle.kc_lists.proofs.Members.{member-cases}
use Rattle.kc_lists.proofs.Counting.{count-le, count-all, count-agree, count-cons}

-- n numbers from `first` on
abbrev pub row : ℕ → ℕ → List ℕ
row first zero = []
row first (suc n) = first ∷ row (suc first) n

-- a number from the first to before the end of a row is in it
pub row-member : (first n x : ℕ) → first ≤ x → x < first + n → member x (row first n) ≡ true
row-member first zero x low high = absurd (omega arith)
row-member first (suc n) x low high = elim (cases_eq x first) [
  | inl e ↦ or_left (eqb x first) (member x (row (suc first) n)) (eq-eqb x first e)
  | inr ne ↦ or_right (eqb x first) (member x (row (suc first) n)) (row-member (suc first) n x (omega arith) (omega arith))
]

-- a number of a row is no less than its first and before its end
pub member-row : (first n x : ℕ) → member x (row first n) ≡ true → (first ≤ x) × (x < first + n)
member-row first zero x m = absurd (false≢true m)
member-row first (suc n) x m = elim (member-cases x first (row (suc first) n) m) [
  | inl e ↦ (omega arith, omega arith)
  | inr k ↦ let h = member-row (suc first) n x k in (omega (arith, h.0), omega (arith, h.1))
]

-- the numbers of a row are distinct
pub Distinct-row : (first n : ℕ) → Distinct (row first n)
Distinct-row first zero = tt
Distinct-row first (suc n) =
    let behind : member first (row (suc first) n) ≡ false = false_from_ne_true (member first (row (suc first) n)) (λ m.
    let low : suc first ≤ first = (member-row (suc first) n first m).0 in
    lt_irrefl first (omega (arith, low))) in
    (behind, Distinct-row (suc first) n)

-- a row has as many numbers as were asked for
pub length-row : (first n : ℕ) → length (row first n) ≡ n
length-row first zero = refl
length-row first (suc n) = ap suc (length-row (suc first) n)

-- each of the numbers is one of the row
abbrev pub AreOfRow : ℕ → ℕ → List ℕ → Type 0
AreOfRow first n xs = (x : ℕ) → member x xs ≡ true → (first ≤ x) × (x < first + n)

-- a test that all numbers pass
abbrev always : ℕ → Bool
always x = true

-- distinct numbers of a row are no more than it has
pub fit-row : (first n : ℕ) (xs : List ℕ) → Distinct xs → AreOfRow first n xs → length xs ≤ n
fit-row first n xs d within =
    let less : count_by always xs ≤ count_by always (row first n) = count-le always xs (row first n) d
    (λ x m _. row-member first n x (within x m).0 (within x m).1) in
    omega (arith, less, count-all always xs (λ _ _. refl), count-all always (row first n) (λ _ _. refl), length-row first n)

-- distinct numbers of a row, as many as it has, are all of it
pub as-many-are-all : (first n : ℕ) (xs : List ℕ) → Distinct xs → AreOfRow first n xs → length xs ≡ n → (place : ℕ) → place < n
    → member (first + place) xs ≡ true
as-many-are-all first n xs d within many place l = true_from_ne_false (member (first + place) xs) (λ none.
    let more : suc (length xs) ≤ n = fit-row first n ((first + place) ∷ xs) (none, d) (λ y m. elim (member-cases y (first + place) xs m) [
      | inl e ↦ (omega arith, omega arith)
      | inr k ↦ within y k
    ]) in
    lt_irrefl n (omega (arith, more, many)))

-- distinct numbers of a row that have each of it pass a test as often as the row does
pub count-row : (p : ℕ → Bool) (first n : ℕ) (xs : List ℕ) → Distinct xs → AreOfRow first n xs
    → ((place : ℕ) → place < n → member (first + place) xs ≡ true) → count_by p xs ≡ count_by p (row first n)
count-row p first n xs d within all =
    let less : count_by p xs ≤ count_by p (row first n) = count-le p xs (row first n) d (λ x m _. row-member first n x (within x m).0 (within x m).1) in
    let more : count_by p (row first n) ≤ count_by p xs = count-le p (row first n) xs (Distinct-row first n) (λ x m _.
    let h = member-row first n x m in
    let at : first + (x - first) ≡ x = omega (arith, h.0) in
    ap (λ k. member k xs) (sym at) ∙ all (x - first) (omega (arith, h.0, h.1))) in
    omega (arith, less, more)

-- a count over a list is one over the row of its places
pub count-places : {X : Type 0} (t : X → Bool) (d : X) (first : ℕ) (ys : List X)
    → count_by t ys ≡ count_by (λ x. t (get_or ys (x - first) d)) (row first (length ys))
count-places t d first [] = refl
count-places t d first (y ∷ ys) =
    let q : ℕ → Bool = λ x. t (get_or (y ∷ ys) (x - first) d) in
    let none : first - first ≡ 0 = omega arith in
    let here : q first ≡ t y = ap (λ (k : ℕ). t (get_or (y ∷ ys) k d)) none in
    let rest : count_by q (row (suc first) (length ys)) ≡ count_by (λ x. t (get_or ys (x - suc first) d)) (row (suc first) (length ys)) =
    count-agree q (λ x. t (get_or ys (x - suc first) d)) (row (suc first) (length ys)) (λ x m.
    let low : suc first ≤ x = (member-row (suc first) (length ys) x m).0 in
    let next : x - first ≡ suc (x - suc first) = omega (arith, low) in
    ap (λ (k : ℕ). t (get_or (y ∷ ys) k d)) next) in
    sum_by-cons (λ z. cond (t z) 1 0) y ys
    ∙ (ap₂ (λ (b : Bool) (n : ℕ). cond b 1 0 + n) (sym here) (count-places t d (suc first) ys ∙ sym rest)
    ∙ sym (count-cons q first (row (suc first) (length ys))))

-- tests that agree on each element count alike
pub count-each : {X : Type 0} (P : X → Type 0) (p q : X → Bool) → ((x : X) → P x → p x ≡ q x) → (xs : List X) → AllByRecursion P xs
    → count_by p xs ≡ count_by q xs
count-each P p q agree [] all = refl
count-each P p q agree (x ∷ xs) all =
    sum_by-cons (λ z. cond (p z) 1 0) x xs
    ∙ (ap₂ (λ (b : Bool) (n : ℕ). cond b 1 0 + n) (agree x all.0) (count-each P p q agree xs all.1) ∙ sym (sum_by-cons (λ z. cond (q z) 1 0) x xs))

-- a count over what a function makes of a list
pub count-map : {X Y : Type 0} (p : Y → Bool) (f : X → Y) (xs : List X) → count_by p (map f xs) ≡ count_by (λ x. p (f x)) xs
count-map p f [] = refl
count-map p f (x ∷ xs) =
    sum_by-cons (λ z. cond (p z) 1 0) (f x) (map f xs)
    ∙ (ap (λ (n : ℕ). cond (p (f x)) 1 0 + n) (count-map p f xs) ∙ sym (sum_by-cons (λ z. cond (p (f z)) 1 0) x xs))
