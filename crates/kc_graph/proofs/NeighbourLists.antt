-- The list of the neighbours of a vertex: there is one, and no other.
use Rattle.std.proofs.Common.{◌≡◌, ◌≢◌, ◌<◌, ℕ, suc, zero, Bool, true, false, cond, ◌||◌, eqb, List, [], ◌∷◌, ◌++◌, refl, sym, ◌∙◌, ap, ap₂, subst, get_or}
use Rattle.std.proofs.Common.{inl, inr, arith, reverse, lt_irrefl}
use Rattle.std.specs.Prelude.{⊤, AllPairs, All}
use Rattle.std.specs.List.{filter}
use Rattle.std.specs.List.Sorted.{IsStrictlyIncreasing}
use Rattle.std.proofs.lemmas.Bool.{cases_Bool, false≢true, true≢false, false_from_ne_true}
use Rattle.std.proofs.lemmas.List.{reverse-append}
use Rattle.std.proofs.lemmas.List.Kept.{AllPairs-from_increasing}
use Rattle.kc_lists.specs.Lists.{member, below, Distinct}
use Rattle.kc_lists.proofs.Members.{member-head, member-tail, member-cases}
use Rattle.kc_lists.proofs.Counting.{member-other, member-push_cases, member-push, member-filter, filter-member, member-below, below-member, member-get_or}
use Rattle.kc_lists.proofs.Counting.{Contains-from_member}
use Rattle.kc_lists.proofs.Shared.{or-turned}
use Rattle.kc_graph.specs.SimpleGraph.{SimpleGraph, adjacent}
use Rattle.kc_graph.specs.Neighbours.{AreNeighbours, neighbours_of}

-- each is below those after it
abbrev pub Rises : List ℕ → Type 0
Rises [] = ⊤
Rises (x ∷ xs) = ((y : ℕ) → member y xs ≡ true → x < y) × Rises xs

-- each is above those after it
abbrev Falls : List ℕ → Type 0
Falls [] = ⊤
Falls (x ∷ xs) = ((y : ℕ) → member y xs ≡ true → y < x) × Falls xs

-- a list in which each pair of places rises is a rising one
Rises-from_pairs : (xs : List ℕ) → AllPairs (λ x y. x < y) xs → Rises xs
Rises-from_pairs [] h = tt
Rises-from_pairs (x ∷ xs) h = (
  λ y m. let c = Contains-from_member xs y m in let lt = h 0 (suc c.0) y (omega arith) (omega (arith, c.1)) in omega (arith, lt, c.2),
  Rises-from_pairs xs (λ i j d lt l. h (suc i) (suc j) d (omega arith) (omega arith)),
)

-- a strictly increasing list rises
pub Rises-from_increasing : (xs : List ℕ) → IsStrictlyIncreasing xs → Rises xs
Rises-from_increasing xs h = Rises-from_pairs xs (AllPairs-from_increasing xs h)

-- what stands behind the first number of a rising list is not that number
not_first : (x : ℕ) (xs : List ℕ) → Rises (x ∷ xs) → (z : ℕ) → member z xs ≡ true → z ≢ x
not_first x xs h z m e = omega (arith, h.0 z m)

-- where two rising lists have the same numbers, what stands behind the first number of one is in the rest of the other
rising-rest : (x : ℕ) (xs ys : List ℕ) → Rises (x ∷ xs) → Rises (x ∷ ys) → ((z : ℕ) → member z (x ∷ xs) ≡ member z (x ∷ ys))
    → (z : ℕ) → member z xs ≡ member z ys
rising-rest x xs ys hx hy same z = elim (cases_Bool (member z xs)) [
  | inl m ↦ m ∙ sym (member-other z x ys (not_first x xs hx z m) (sym (same z) ∙ member-tail z x xs m))
  | inr n ↦ n ∙ sym (false_from_ne_true (member z ys) (λ m. true≢false (sym (member-other z x xs (not_first x ys hy z m) (same z ∙ member-tail z x ys m)) ∙ n)))
]

-- rising lists of the same numbers begin with the same number
rising-heads : (x y : ℕ) (xs ys : List ℕ) → Rises (x ∷ xs) → Rises (y ∷ ys) → ((z : ℕ) → member z (x ∷ xs) ≡ member z (y ∷ ys)) → x ≡ y
rising-heads x y xs ys hx hy same = elim (member-cases x y ys (sym (same x) ∙ member-head x xs)) [
  | inl e ↦ e
  | inr m ↦ elim (member-cases y x xs (same y ∙ member-head y ys)) [ inl e ↦ sym e | inr k ↦ absurd (omega (arith, hy.0 x m, hx.0 y k)) ]
]

-- two rising lists of the same numbers are one
pub rising_same : (xs ys : List ℕ) → Rises xs → Rises ys → ((z : ℕ) → member z xs ≡ member z ys) → xs ≡ ys
rising_same [] [] hx hy same = refl
rising_same [] (y ∷ ys) hx hy same = absurd (true≢false (sym (member-head y ys) ∙ sym (same y)))
rising_same (x ∷ xs) [] hx hy same = absurd (true≢false (sym (member-head x xs) ∙ same x))
rising_same (x ∷ xs) (y ∷ ys) hx hy same =
    let e : x ≡ y = rising-heads x y xs ys hx hy same in
    let hy' : Rises (x ∷ ys) = (λ z m. omega (arith, e, hy.0 z m), hy.1) in
    let same' : (z : ℕ) → member z (x ∷ xs) ≡ member z (x ∷ ys) = λ z. same z ∙ ap (λ n. member z (n ∷ ys)) (sym e) in
    ap₂ (λ n ns. n ∷ ns) e (rising_same xs ys hx.1 hy.1 (rising-rest x xs ys hx hy' same'))

-- the first number of a list is the last of the list turned
reverse-cons : (x : ℕ) (xs : List ℕ) → reverse (x ∷ xs) ≡ reverse xs ++ x ∷ []
reverse-cons x xs = reverse-append (x ∷ []) xs

-- a list turned has the same numbers
member-reverse : (z : ℕ) (xs : List ℕ) → member z (reverse xs) ≡ member z xs
member-reverse z [] = refl
member-reverse z (x ∷ xs) =
    ap (member z) (reverse-cons x xs)
    ∙ (member-push z x (reverse xs) ∙ (ap (λ b. b || eqb z x) (member-reverse z xs) ∙ or-turned (member z xs) (eqb z x)))

-- a rising list with a greater number at its end rises
Rises-push : (xs : List ℕ) (x : ℕ) → Rises xs → ((y : ℕ) → member y xs ≡ true → y < x) → Rises (xs ++ x ∷ [])
Rises-push [] x h last = (λ y m. absurd (false≢true m), tt)
Rises-push (y ∷ ys) x h last = (
  λ z m. elim (member-push_cases z x ys m) [ inl k ↦ h.0 z k | inr e ↦ omega (arith, last y (member-head y ys)) ],
  Rises-push ys x h.1 (λ z m. last z (member-tail z y ys m)),
)

-- a falling list turned rises
Rises-reverse : (xs : List ℕ) → Falls xs → Rises (reverse xs)
Rises-reverse [] h = tt
Rises-reverse (x ∷ xs) h =
    subst Rises (sym (reverse-cons x xs)) (Rises-push (reverse xs) x (Rises-reverse xs h.1) (λ y m. h.0 y (sym (member-reverse y xs) ∙ m)))

-- what is left of a falling list falls
Falls-filter : (p : ℕ → Bool) (xs : List ℕ) → Falls xs → Falls (filter p xs)
Falls-filter p [] h = tt
Falls-filter p (x ∷ xs) h =
    elim (p x) as (λ b. Falls (cond b (x ∷ filter p xs) (filter p xs))) [
      | true ↦ (λ y m. h.0 y (member-filter p y xs m).0, Falls-filter p xs h.1)
      | false ↦ Falls-filter p xs h.1
    ]

-- the numbers below a number, greatest first, fall
Falls-below : (n : ℕ) → Falls (below n)
Falls-below zero = tt
Falls-below (suc n) = (λ y m. below-member y n m, Falls-below n)

-- the list of all neighbours rises
pub neighbours_rise : (g : SimpleGraph) (v : ℕ) → Rises (neighbours_of g v)
neighbours_rise g v = Rises-reverse (filter (adjacent g v) (below g.size)) (Falls-filter (adjacent g v) (below g.size) (Falls-below g.size))

-- it has the neighbours that are vertices
pub neighbours_has : (g : SimpleGraph) (v w : ℕ) → w < g.size → member w (neighbours_of g v) ≡ adjacent g v w
neighbours_has g v w l = member-reverse w (filter (adjacent g v) (below g.size)) ∙ elim (cases_Bool (adjacent g v w)) [
  | inl a ↦ filter-member (adjacent g v) w (below g.size) (member-below w g.size l) a ∙ sym a
  | inr n ↦ false_from_ne_true _ (λ m. true≢false (sym (member-filter (adjacent g v) w (below g.size) m).1 ∙ n)) ∙ sym n
]

-- and no other number
pub neighbours_within : (g : SimpleGraph) (v w : ℕ) → member w (neighbours_of g v) ≡ true → (w < g.size) × (adjacent g v w ≡ true)
neighbours_within g v w m =
    let k = member-filter (adjacent g v) w (below g.size) (sym (member-reverse w (filter (adjacent g v) (below g.size))) ∙ m) in
    (below-member w g.size k.0, k.1)

-- a rising list has each number once
pub Distinct-rises : (xs : List ℕ) → Rises xs → Distinct xs
Distinct-rises [] h = tt
Distinct-rises (x ∷ xs) h = (false_from_ne_true (member x xs) (λ m. lt_irrefl x (h.0 x m)), Distinct-rises xs h.1)

-- the list of the neighbours of a vertex has each once
pub neighbours_once : (g : SimpleGraph) (v : ℕ) → Distinct (neighbours_of g v)
neighbours_once g v = Distinct-rises (neighbours_of g v) (neighbours_rise g v)

-- the neighbours in a row are vertices
pub row_within : (g : SimpleGraph) (v : ℕ) (ws : List ℕ) → AreNeighbours g v ws → All (λ w. w < g.size) ws
row_within g v ws near k d l = near.within (get_or ws k d) (member-get_or ws k d l)

-- the neighbours in ascending order are that list
pub neighbours_are : (g : SimpleGraph) (v : ℕ) (ws : List ℕ) → AreNeighbours g v ws → ws ≡ neighbours_of g v
neighbours_are g v ws near =
    let same : (z : ℕ) → member z ws ≡ member z (neighbours_of g v) = λ z. elim (cases_Bool (member z ws)) [
      | inl m ↦ m ∙ sym (neighbours_has g v z (near.within z m) ∙ (sym (near.exact z) ∙ m))
      | inr n ↦ n ∙ sym (false_from_ne_true _ (λ m. let k = neighbours_within g v z m in true≢false (sym k.1 ∙ (sym (near.exact z) ∙ n))))
    ] in
    rising_same ws (neighbours_of g v) (Rises-from_increasing ws near.ascending) (neighbours_rise g v) same
