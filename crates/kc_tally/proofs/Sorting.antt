-- Numbers below a bound, put in a given strict order.
use Rattle.std.proofs.Common.{◌≡◌, ◌≢◌, ◌<◌, ◌+◌, ℕ, suc, zero, Bool, true, false, cond, List, [], ◌∷◌, length, get_or, drop, eqb, refl, sym, ◌∙◌, ap, ◌⊎◌}
use Rattle.std.proofs.Common.{inl, inr, arith, true≢false, eq-eqb, subst}
use Rattle.std.specs.Prelude.{⊤, AllPairs}
use Rattle.std.proofs.lemmas.Bool.{false≢true, false_from_ne_true, or_left}
use Rattle.kc_lists.specs.Lists.{member, Distinct, below}
use Rattle.kc_lists.proofs.Members.{member-tail, member-cases}
use Rattle.kc_lists.proofs.Counting.{member-get_or, Contains-from_member, member-below, below-member, Distinct-below, pairs_from_Distinct}
use Rattle.kc_graph.specs.Certificate.{Enumerates}

module _ (before : ℕ → ℕ → Bool) where
  -- each comes before those after it
  abbrev pub Ascends : List ℕ → Type 0
  Ascends [] = ⊤
  Ascends (x ∷ xs) = ((y : ℕ) → member y xs ≡ true → before x y ≡ true) × Ascends xs

  -- the list with `x` in front of the first that it comes before
  abbrev put : ℕ → List ℕ → List ℕ
  put x [] = x ∷ []
  put x (y ∷ ys) = cond (before x y) (x ∷ y ∷ ys) (y ∷ put x ys)

  -- the list in order
  abbrev sorted : List ℕ → List ℕ
  sorted [] = []
  sorted (x ∷ xs) = put x (sorted xs)

  -- what was put is there, and what was there stays
  put-member : (z x : ℕ) (ys : List ℕ) → (z ≡ x) ⊎ (member z ys ≡ true) → member z (put x ys) ≡ true
  put-member z x [] h = elim h [ inl e ↦ or_left (eqb z x) _ (eq-eqb z x e) | inr m ↦ absurd (false≢true m) ]
  put-member z x (y ∷ ys) h = elim (before x y) as (λ b. member z (cond b (x ∷ y ∷ ys) (y ∷ put x ys)) ≡ true) [
    | true ↦ elim h [ inl e ↦ or_left (eqb z x) _ (eq-eqb z x e) | inr m ↦ member-tail z x (y ∷ ys) m ]
    | false ↦ elim h [
      | inl e ↦ member-tail z y (put x ys) (put-member z x ys (inl e))
      | inr m ↦ elim (member-cases z y ys m) [
        | inl e ↦ or_left (eqb z y) _ (eq-eqb z y e)
        | inr k ↦ member-tail z y (put x ys) (put-member z x ys (inr k))
      ]
    ]
  ]

  -- what is there was put or was there
  member-put : (z x : ℕ) (ys : List ℕ) → member z (put x ys) ≡ true → (z ≡ x) ⊎ (member z ys ≡ true)
  member-put z x [] m = member-cases z x [] m
  member-put z x (y ∷ ys) h =
      elim (before x y) as (λ b. member z (cond b (x ∷ y ∷ ys) (y ∷ put x ys)) ≡ true → (z ≡ x) ⊎ (member z (y ∷ ys) ≡ true)) [
        | true ↦ λ m. member-cases z x (y ∷ ys) m
        | false ↦ λ m. elim (member-cases z y (put x ys) m) [
          | inl e ↦ inr (or_left (eqb z y) _ (eq-eqb z y e))
          | inr k ↦ elim (member-put z x ys k) [ inl e ↦ inl e | inr l ↦ inr (member-tail z y ys l) ]
        ]
      ] h

  -- a number that is not there is put in without a double
  Distinct-put : (x : ℕ) (ys : List ℕ) → Distinct ys → member x ys ≡ false → Distinct (put x ys)
  Distinct-put x [] d m = (refl, tt)
  Distinct-put x (y ∷ ys) d m = elim (before x y) as (λ b. Distinct (cond b (x ∷ y ∷ ys) (y ∷ put x ys))) [
    | true ↦ (m, d)
    | false ↦ (
      false_from_ne_true (member y (put x ys)) (λ k. elim (member-put y x ys k) [
        | inl e ↦ true≢false (sym (or_left (eqb x y) (member x ys) (eq-eqb x y (sym e))) ∙ m)
        | inr l ↦ true≢false (sym l ∙ d.0)
      ]),
      Distinct-put x ys d.1 (false_from_ne_true (member x ys) (λ k. true≢false (sym (member-tail x y ys k) ∙ m))),
    )
  ]

  module _ (n : ℕ) (trans : (u v w : ℕ) → before u v ≡ true → before v w ≡ true → before u w ≡ true)
      (total : (v w : ℕ) → v < n → w < n → v ≢ w → (before v w ≡ true) ⊎ (before w v ≡ true)) where
    -- a list in order stays in order with a number put in
    Ascends-put : (x : ℕ) (ys : List ℕ) → x < n → ((y : ℕ) → member y ys ≡ true → y < n) → Ascends ys → member x ys ≡ false → Ascends (put x ys)
    Ascends-put x [] lx ls a m = (λ y k. absurd (false≢true k), tt)
    Ascends-put x (y ∷ ys) lx ls a m = elim (before x y) as (λ b. before x y ≡ b → Ascends (cond b (x ∷ y ∷ ys) (y ∷ put x ys))) [
      | true ↦ λ t. (λ z k. elim (member-cases z y ys k) [ inl e ↦ ap (before x) e ∙ t | inr l ↦ trans x y z t (a.0 z l) ], a)
      | false ↦ λ f.
          let ne : x ≢ y = λ e. true≢false (sym (or_left (eqb x y) (member x ys) (eq-eqb x y e)) ∙ m) in
          let ly : y < n = ls y (or_left (eqb y y) (member y ys) (eq-eqb y y refl)) in
          let up : before y x ≡ true = elim (total x y lx ly ne) [ inl t ↦ absurd (true≢false (sym t ∙ f)) | inr t ↦ t ] in (
            λ z k. elim (member-put z x ys k) [ inl e ↦ ap (before y) e ∙ up | inr l ↦ a.0 z l ],
            Ascends-put x ys lx (λ z k. ls z (member-tail z y ys k)) a.1 (false_from_ne_true (member x ys) (λ k. true≢false (sym (member-tail x y ys k) ∙ m))),
          )
    ] refl

    -- a list without doubles, put in order, is in order and has no doubles, and the same numbers
    sorted-right : (xs : List ℕ) → ((x : ℕ) → member x xs ≡ true → x < n) → Distinct xs
        → Ascends (sorted xs) × Distinct (sorted xs) × ((z : ℕ) → member z (sorted xs) ≡ true → member z xs ≡ true)
        × ((z : ℕ) → member z xs ≡ true → member z (sorted xs) ≡ true)
    sorted-right [] ls d = (tt, tt, λ z m. m, λ z m. m)
    sorted-right (x ∷ xs) ls d =
        let r = sorted-right xs (λ y k. ls y (member-tail y x xs k)) d.1 in
        let new' : member x (sorted xs) ≡ false = false_from_ne_true (member x (sorted xs)) (λ m. true≢false (sym (r.2 x m) ∙ d.0)) in (
          Ascends-put x (sorted xs) (ls x (or_left (eqb x x) (member x xs) (eq-eqb x x refl))) (λ y k. ls y (member-tail y x xs (r.2 y k))) r.0 new',
          Distinct-put x (sorted xs) r.1 new',
          λ z m. elim (member-put z x (sorted xs) m) [ inl e ↦ or_left (eqb z x) _ (eq-eqb z x e) | inr k ↦ member-tail z x xs (r.2 z k) ],
          λ z m. elim (member-cases z x xs m) [ inl e ↦ put-member z x (sorted xs) (inl e) | inr k ↦ put-member z x (sorted xs) (inr (r.3 z k)) ],
        )

    -- the numbers below a bound can be put in an order that is total on them
    pub order_within : (order : List ℕ) × Enumerates n order × Ascends order
    order_within =
        let r = sorted-right (below n) (λ x m. below-member x n m) (Distinct-below n) in (
          sorted (below n),
          record {
            below = λ k d l. below-member _ n (r.2 _ (member-get_or (sorted (below n)) k d l));
            distinct = pairs_from_Distinct (sorted (below n)) r.1;
            complete = λ v l. Contains-from_member (sorted (below n)) v (r.3 v (member-below v n l));
          },
          r.0,
        )

  -- the numbers below a bound can be put in a total order
  pub order_below : ((u v w : ℕ) → before u v ≡ true → before v w ≡ true → before u w ≡ true)
      → ((v w : ℕ) → v ≢ w → (before v w ≡ true) ⊎ (before w v ≡ true)) → (n : ℕ) → (order : List ℕ) × Enumerates n order × Ascends order
  order_below trans total n = order_within n trans (λ v w _ _ ne. total v w ne)

  -- of two places in a list in order, what stands at the first comes before what stands at the second
  pub Ascends-pairs : (xs : List ℕ) → Ascends xs → AllPairs (λ v w. before v w ≡ true) xs
  Ascends-pairs [] a i j d lt l = absurd (omega arith)
  Ascends-pairs (x ∷ xs) a zero zero d lt l = absurd (omega arith)
  Ascends-pairs (x ∷ xs) a (suc i) zero d lt l = absurd (omega arith)
  Ascends-pairs (x ∷ xs) a zero (suc j) d lt l = a.0 (get_or xs j d) (member-get_or xs j d (omega arith))
  Ascends-pairs (x ∷ xs) a (suc i) (suc j) d lt l = Ascends-pairs xs a.1 i j d (omega arith) (omega arith)

  -- what stands at a place of a list in order comes before all that stands later
  pub Ascends-later : (i : ℕ) (xs : List ℕ) → Ascends xs → i < length xs → (w : ℕ) → member w (drop (suc i) xs) ≡ true → before (get_or xs i 0) w ≡ true
  Ascends-later i [] a l w m = absurd (omega arith)
  Ascends-later zero (x ∷ xs) a l w m = a.0 w m
  Ascends-later (suc i) (x ∷ xs) a l w m = Ascends-later i xs a.1 (omega arith) w m

  -- the same, as orders are cut
  pub Ascends-behind : (i : ℕ) (xs : List ℕ) → Ascends xs → i < length xs → (w : ℕ) → member w (drop (i + 1) xs) ≡ true → before (get_or xs i 0) w ≡ true
  Ascends-behind i xs a l w m = Ascends-later i xs a l w (subst (λ (n : ℕ). member w (drop n xs) ≡ true) (next i) m) where
    next : (i : ℕ) → i + 1 ≡ suc i
    next i = omega arith
