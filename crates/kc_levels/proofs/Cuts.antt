-- Filters, puts and appended lists.
use Rattle.std.proofs.Common.{◌≡◌, ◌≢◌, ℕ, Bool, true, false, cond, not, ◌&&◌, List, [], ◌∷◌, ◌++◌, eqb, refl, sym, ◌∙◌, ap, inl, inr, arith}
use Rattle.std.proofs.Common.{true≢false, eq-eqb, ne_eqb}
use Rattle.std.specs.List.{filter}
use Rattle.std.proofs.lemmas.Bool.{cases_Bool, cases_eq, false≢true, false_from_ne_true}
use Rattle.kc_lists.specs.Lists.{member, Distinct, without, right_after, last_or, prev_of}
use Rattle.kc_lists.proofs.Counting.{member-filter}
use Rattle.kc_lists.proofs.Members.{member-head, member-tail, member-cases, not_member-parts, member-last_or, without-none, without-here, without-next}
use Rattle.kc_cert.proofs.Chaining.{right_after-here, right_after-next}

-- the first passes and stays
pub filter-yes : (p : ℕ → Bool) (x : ℕ) (xs : List ℕ) → p x ≡ true → filter p (x ∷ xs) ≡ x ∷ filter p xs
filter-yes p x xs h = ap (λ b. cond b (x ∷ filter p xs) (filter p xs)) h

-- the first fails and goes
pub filter-no : (p : ℕ → Bool) (x : ℕ) (xs : List ℕ) → p x ≡ false → filter p (x ∷ xs) ≡ filter p xs
filter-no p x xs h = ap (λ b. cond b (x ∷ filter p xs) (filter p xs)) h

-- two tests that agree on the members
pub filter-alike : (p q : ℕ → Bool) (xs : List ℕ) → ((y : ℕ) → member y xs ≡ true → p y ≡ q y) → filter p xs ≡ filter q xs
filter-alike p q [] h = refl
filter-alike p q (x ∷ xs) h = ap (λ b. cond b (x ∷ filter p xs) (filter p xs)) (h x (member-head x xs))
    ∙ ap (λ (zs : List ℕ). cond (q x) (x ∷ zs) zs) (filter-alike p q xs (λ y m. h y (member-tail y x xs m)))

-- where no member passes, nothing is left
pub filter-none : (p : ℕ → Bool) (xs : List ℕ) → ((y : ℕ) → member y xs ≡ true → p y ≡ false) → filter p xs ≡ []
filter-none p [] h = refl
filter-none p (x ∷ xs) h = filter-no p x xs (h x (member-head x xs)) ∙ filter-none p xs (λ y m. h y (member-tail y x xs m))

-- where each member passes, all is left
pub filter-all : (p : ℕ → Bool) (xs : List ℕ) → ((y : ℕ) → member y xs ≡ true → p y ≡ true) → filter p xs ≡ xs
filter-all p [] h = refl
filter-all p (x ∷ xs) h = filter-yes p x xs (h x (member-head x xs)) ∙ ap (λ (zs : List ℕ). x ∷ zs) (filter-all p xs (λ y m. h y (member-tail y x xs m)))

-- both, in either order
and_swap : (a b : Bool) → (a && b) ≡ (b && a)
and_swap a b = grind arith

-- one filter after another is a filter by both tests
pub filter-filter : (p q : ℕ → Bool) (xs : List ℕ) → filter p (filter q xs) ≡ filter (λ y. q y && p y) xs
filter-filter p q [] = refl
filter-filter p q (x ∷ xs) = elim (cases_Bool (q x)) [
  | inl t ↦ ap (filter p) (filter-yes q x xs t)
      ∙ (ap (λ (zs : List ℕ). cond (p x) (x ∷ zs) zs) (filter-filter p q xs)
      ∙ sym (ap (λ b. cond (b && p x) (x ∷ filter (λ y. q y && p y) xs) (filter (λ y. q y && p y) xs)) t))
  | inr f ↦ ap (filter p) (filter-no q x xs f)
      ∙ (filter-filter p q xs ∙ sym (ap (λ b. cond (b && p x) (x ∷ filter (λ y. q y && p y) xs) (filter (λ y. q y && p y) xs)) f))
]

-- two filters may change places
pub filter-swap : (p q : ℕ → Bool) (xs : List ℕ) → filter p (filter q xs) ≡ filter q (filter p xs)
filter-swap p q xs = filter-filter p q xs ∙ (filter-alike (λ y. q y && p y) (λ y. p y && q y) xs (λ y _. and_swap (q y) (p y)) ∙ sym (filter-filter q p xs))

-- a filter and leaving out may change places
pub filter-without : (p : ℕ → Bool) (v : ℕ) (xs : List ℕ) → filter p (without v xs) ≡ without v (filter p xs)
filter-without p v [] = refl
filter-without p v (x ∷ xs) = elim (cases_eq v x) [
  | inl e ↦ ap (filter p) (without-here v x xs e)
      ∙ (filter-without p v xs ∙ elim (p x) as (λ b. without v (filter p xs) ≡ without v (cond b (x ∷ filter p xs) (filter p xs))) [
        | true ↦ sym (without-here v x (filter p xs) e)
        | false ↦ refl
      ])
  | inr ne ↦ ap (filter p) (without-next v x xs ne)
      ∙ elim (p x) as (λ b. cond b (x ∷ filter p (without v xs)) (filter p (without v xs)) ≡ without v (cond b (x ∷ filter p xs) (filter p xs))) [
        | true ↦ ap (λ (zs : List ℕ). x ∷ zs) (filter-without p v xs) ∙ sym (without-next v x (filter p xs) ne)
        | false ↦ filter-without p v xs
      ]
]

-- a filter that also leaves one number out
pub filter-but : (q : ℕ → Bool) (v : ℕ) (xs : List ℕ) → filter (λ y. q y && not (member y (v ∷ []))) xs ≡ filter q (without v xs)
filter-but q v [] = refl
filter-but q v (x ∷ xs) =
    let test : ℕ → Bool = λ y. q y && not (member y (v ∷ [])) in
    elim (cases_eq v x) [
      | inl e ↦
          let no : test x ≡ false = let k : eqb x v ≡ true = eq-eqb x v (sym e) in grind (arith, k) in
          filter-no test x xs no ∙ (filter-but q v xs ∙ ap (filter q) (sym (without-here v x xs e)))
      | inr ne ↦
          let is : test x ≡ q x = let k : eqb x v ≡ false = ne_eqb x v (λ e. ne (sym e)) in grind (arith, k) in
          ap (λ b. cond b (x ∷ filter test xs) (filter test xs)) is
          ∙ (ap (λ (zs : List ℕ). cond (q x) (x ∷ zs) zs) (filter-but q v xs) ∙ ap (filter q) (sym (without-next v x xs ne)))
    ]

-- where the place is not in the list, nothing changes
pub right_after-none : (x p : ℕ) (ys : List ℕ) → member p ys ≡ false → right_after x p ys ≡ ys
right_after-none x p [] h = refl
right_after-none x p (y ∷ ys) h = let k = not_member-parts p y ys h in right_after-next x p y ys k.0
    ∙ ap (λ (zs : List ℕ). y ∷ zs) (right_after-none x p ys k.1)

-- the place is not in the first part
pub right_after-skip : (x p : ℕ) (xs ys : List ℕ) → member p xs ≡ false → right_after x p (xs ++ ys) ≡ xs ++ right_after x p ys
right_after-skip x p [] ys h = refl
right_after-skip x p (z ∷ xs) ys h = let k = not_member-parts p z xs h in right_after-next x p z (xs ++ ys) k.0
    ∙ ap (λ (zs : List ℕ). z ∷ zs) (right_after-skip x p xs ys k.1)

-- the place is in the first part
pub right_after-left : (x p : ℕ) (xs ys : List ℕ) → member p xs ≡ true → right_after x p (xs ++ ys) ≡ right_after x p xs ++ ys
right_after-left x p [] ys h = absurd (false≢true h)
right_after-left x p (z ∷ xs) ys h = elim (cases_eq p z) [
  | inl e ↦ right_after-here x p z (xs ++ ys) e ∙ sym (ap (λ (zs : List ℕ). zs ++ ys) (right_after-here x p z xs e))
  | inr ne ↦
      let there : member p xs ≡ true = elim (member-cases p z xs h) [ inl e ↦ absurd (ne e) | inr m ↦ m ] in
      right_after-next x p z (xs ++ ys) ne ∙ (ap (λ (zs : List ℕ). z ∷ zs) (right_after-left x p xs ys there)
      ∙ sym (ap (λ (zs : List ℕ). zs ++ ys) (right_after-next x p z xs ne)))
]

-- in each of two lists of which at most one has the place
pub right_after-both : (x p : ℕ) (xs ys : List ℕ) → (member p xs ≡ true → member p ys ≡ false)
    → right_after x p (xs ++ ys) ≡ right_after x p xs ++ right_after x p ys
right_after-both x p xs ys h = elim (cases_Bool (member p xs)) [
  | inl m ↦ right_after-left x p xs ys m ∙ ap (λ (zs : List ℕ). right_after x p xs ++ zs) (sym (right_after-none x p ys (h m)))
  | inr n ↦ right_after-skip x p xs ys n ∙ ap (λ (zs : List ℕ). zs ++ right_after x p ys) (sym (right_after-none x p xs n))
]

-- what is put right after one that passes alike
pub filter-right_after : (p : ℕ → Bool) (x w : ℕ) (zs : List ℕ) → p x ≡ p w → filter p (right_after x w zs) ≡ right_after x w (filter p zs)
filter-right_after p x w [] h = refl
filter-right_after p x w (z ∷ zs) h = elim (cases_eq w z) [
  | inl e ↦ ap (filter p) (right_after-here x w z zs e) ∙ elim (cases_Bool (p w)) [
    | inl t ↦ filter-yes p z (x ∷ zs) (sym (ap p e) ∙ t)
        ∙ (ap (λ (ys : List ℕ). z ∷ ys) (filter-yes p x zs (h ∙ t))
        ∙ (sym (right_after-here x w z (filter p zs) e) ∙ ap (right_after x w) (sym (filter-yes p z zs (sym (ap p e) ∙ t)))))
    | inr f ↦
        let out : member w (filter p zs) ≡ false = false_from_ne_true (member w (filter p zs)) (λ m. true≢false (sym (passes p w zs m) ∙ f)) in
        filter-no p z (x ∷ zs) (sym (ap p e) ∙ f)
        ∙ (filter-no p x zs (h ∙ f) ∙ (sym (right_after-none x w (filter p zs) out) ∙ ap (right_after x w) (sym (filter-no p z zs (sym (ap p e) ∙ f)))))
  ]
  | inr ne ↦ ap (filter p) (right_after-next x w z zs ne)
      ∙ elim (p z) as (λ b. cond b (z ∷ filter p (right_after x w zs)) (filter p (right_after x w zs))
      ≡ right_after x w (cond b (z ∷ filter p zs) (filter p zs))) [
        | true ↦ ap (λ (ys : List ℕ). z ∷ ys) (filter-right_after p x w zs h) ∙ sym (right_after-next x w z (filter p zs) ne)
        | false ↦ filter-right_after p x w zs h
      ]
]
  where
    -- what a filter leaves passes
    passes : (p : ℕ → Bool) (y : ℕ) (ys : List ℕ) → member y (filter p ys) ≡ true → p y ≡ true
    passes p y ys m = (member-filter p y ys m).1

-- behind the last of a list
pub right_after-last : (x h : ℕ) (xs ys : List ℕ) → Distinct (h ∷ xs) → right_after x (last_or h xs) (h ∷ (xs ++ ys)) ≡ h ∷ (xs ++ x ∷ ys)
right_after-last x h [] ys d = right_after-here x h h ys refl
right_after-last x h (y ∷ xs) ys d =
    let other : last_or y xs ≢ h = λ e. true≢false (sym (member-last_or y xs) ∙ (ap (λ (z : ℕ). member z (y ∷ xs)) e ∙ d.0)) in
    right_after-next x (last_or y xs) h (y ∷ (xs ++ ys)) other ∙ ap (λ (zs : List ℕ). h ∷ zs) (right_after-last x y xs ys d.1)

-- nothing stands before the first
pub prev_of-here : (e x y : ℕ) (ys : List ℕ) → x ≡ y → prev_of e x (y ∷ ys) ≡ e
prev_of-here e x y ys k = ap (λ b. cond b e (prev_of y x ys)) (eq-eqb x y k)

-- what stands before one that is not the first
pub prev_of-next : (e x y : ℕ) (ys : List ℕ) → x ≢ y → prev_of e x (y ∷ ys) ≡ prev_of y x ys
prev_of-next e x y ys ne = ap (λ b. cond b e (prev_of y x ys)) (ne_eqb x y ne)

-- what stands before one that is not in the first part
pub prev_of-skip : (e x : ℕ) (xs ys : List ℕ) → member x xs ≡ false → prev_of e x (xs ++ ys) ≡ prev_of (last_or e xs) x ys
prev_of-skip e x [] ys h = refl
prev_of-skip e x (z ∷ xs) ys h = let k = not_member-parts x z xs h in prev_of-next e x z (xs ++ ys) k.0 ∙ prev_of-skip z x xs ys k.1

-- what stands before a member is a member, or the default
pub prev_of-in : (e x : ℕ) (xs : List ℕ) → member x xs ≡ true → member (prev_of e x xs) (e ∷ xs) ≡ true
prev_of-in e x [] m = absurd (false≢true m)
prev_of-in e x (y ∷ ys) m = elim (cases_eq x y) [
  | inl k ↦ ap (λ (j : ℕ). member j (e ∷ y ∷ ys)) (prev_of-here e x y ys k) ∙ member-head e (y ∷ ys)
  | inr ne ↦
      let there : member x ys ≡ true = elim (member-cases x y ys m) [ inl k ↦ absurd (ne k) | inr k ↦ k ] in
      ap (λ (j : ℕ). member j (e ∷ y ∷ ys)) (prev_of-next e x y ys ne) ∙ member-tail (prev_of y x ys) e (y ∷ ys) (prev_of-in y x ys there)
]

-- what stands before `x` once `v` is out: what stood before `v`, where that was `v`
pub prev_of-without : (e x v : ℕ) (xs : List ℕ) → Distinct xs → member x xs ≡ true → x ≢ v → e ≢ v
    → prev_of e x (without v xs) ≡ cond (eqb (prev_of e x xs) v) (prev_of e v xs) (prev_of e x xs)
prev_of-without e x v [] d m xv ev = absurd (false≢true m)
prev_of-without e x v (y ∷ ys) d m xv ev = elim (cases_eq v y) [
  | inl vy ↦
      let out : member v ys ≡ false = ap (λ (k : ℕ). member k ys) vy ∙ d.0 in
      let xy : x ≢ y = λ k. xv (k ∙ sym vy) in
      let there : member x ys ≡ true = elim (member-cases x y ys m) [ inl k ↦ absurd (xy k) | inr k ↦ k ] in
      ap (prev_of e x) (without-here v y ys vy ∙ without-none v ys out)
      ∙ (first e v x ys out there
      ∙ (ap (λ (k : ℕ). cond (eqb (prev_of k x ys) v) e (prev_of k x ys)) vy
      ∙ sym (ap (λ (k : ℕ). cond (eqb k v) (prev_of e v (y ∷ ys)) k) (prev_of-next e x y ys xy)
      ∙ ap (λ (k : ℕ). cond (eqb (prev_of y x ys) v) k (prev_of y x ys)) (prev_of-here e v y ys vy))))
  | inr ne ↦ elim (cases_eq x y) [
    | inl xy ↦ ap (prev_of e x) (without-next v y ys ne)
        ∙ (prev_of-here e x y (without v ys) xy
        ∙ sym (ap (λ (k : ℕ). cond (eqb k v) (prev_of e v (y ∷ ys)) k) (prev_of-here e x y ys xy) ∙ ap (λ b. cond b (prev_of e v (y ∷ ys)) e) (ne_eqb e v ev)))
    | inr xy ↦
        let there : member x ys ≡ true = elim (member-cases x y ys m) [ inl k ↦ absurd (xy k) | inr k ↦ k ] in
        ap (prev_of e x) (without-next v y ys ne) ∙ (prev_of-next e x y (without v ys) xy ∙ (prev_of-without y x v ys d.1 there xv (λ k. ne (sym k))
        ∙ sym (ap (λ (k : ℕ). cond (eqb k v) (prev_of e v (y ∷ ys)) k) (prev_of-next e x y ys xy)
        ∙ ap (λ (k : ℕ). cond (eqb (prev_of y x ys) v) k (prev_of y x ys)) (prev_of-next e v y ys ne))))
  ]
]
  where
    -- `v` was the first
    first : (e v x : ℕ) (zs : List ℕ) → member v zs ≡ false → member x zs ≡ true → prev_of e x zs ≡ cond (eqb (prev_of v x zs) v) e (prev_of v x zs)
    first e v x [] out m = absurd (false≢true m)
    first e v x (z ∷ zs) out m = elim (cases_eq x z) [
      | inl k ↦ prev_of-here e x z zs k ∙ sym (ap (λ (j : ℕ). cond (eqb j v) e j) (prev_of-here v x z zs k) ∙ ap (λ b. cond b e v) (eq-eqb v v refl))
      | inr ne ↦
          let there : member x zs ≡ true = elim (member-cases x z zs m) [ inl k ↦ absurd (ne k) | inr k ↦ k ] in
          let other : prev_of z x zs ≢ v = λ k. true≢false (sym (prev_of-in z x zs there) ∙ (ap (λ (j : ℕ). member j (z ∷ zs)) k ∙ out)) in
          prev_of-next e x z zs ne ∙ sym (ap (λ (j : ℕ). cond (eqb j v) e j) (prev_of-next v x z zs ne)
          ∙ ap (λ b. cond b e (prev_of z x zs)) (ne_eqb (prev_of z x zs) v other))
    ]
