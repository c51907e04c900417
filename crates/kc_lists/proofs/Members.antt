-- Membership, and lists cut at a member.
use Rattle.std.proofs.Common.{◌≡◌, ℕ, suc, zero, ◌<◌, ◌≤◌, true, false, cond, List, [], ◌∷◌, ◌++◌, length, eqb, refl, sym, ◌∙◌, ap, subst, ◌⊎◌, inl, inr, arith}
use Rattle.std.proofs.Common.{◌≢◌}
use Rattle.std.proofs.lemmas.Bool.{eqb-true, eqb-false, eq-eqb, ne_eqb, cases_Bool, or_cases, or_left, or_right, or_parts, or_from, false≢true}
use Rattle.std.proofs.lemmas.Bool.{true≢false, false_from_ne_true}
use Rattle.std.proofs.lemmas.List.{append_assoc, length-append}
use Rattle.kc_lists.specs.Lists.{member, Distinct, without, right_after, head_or, last_or, next_of, prev_of, place_of}

-- the first of a list is a member
pub member-head : (x : ℕ) (xs : List ℕ) → member x (x ∷ xs) ≡ true
member-head x xs = or_left (eqb x x) (member x xs) (eq-eqb x x refl)

-- a member of the rest is a member
pub member-tail : (x y : ℕ) (ys : List ℕ) → member x ys ≡ true → member x (y ∷ ys) ≡ true
member-tail x y ys h = or_right (eqb x y) (member x ys) h

-- a member is the first, or in the rest
pub member-cases : (x y : ℕ) (ys : List ℕ) → member x (y ∷ ys) ≡ true → (x ≡ y) ⊎ (member x ys ≡ true)
member-cases x y ys h = elim (or_cases (eqb x y) (member x ys) h) [ inl e ↦ inl (eqb-true x y e) | inr m ↦ inr m ]

-- what is neither the first nor in the rest is no member
pub not_member-cons : (x y : ℕ) (ys : List ℕ) → (x ≡ y → ⊥) → member x ys ≡ false → member x (y ∷ ys) ≡ false
not_member-cons x y ys ne h = or_from (eqb x y) (member x ys) (ne_eqb x y ne) h

-- what is no member is neither the first nor in the rest
pub not_member-parts : (x y : ℕ) (ys : List ℕ) → member x (y ∷ ys) ≡ false → (x ≡ y → ⊥) × (member x ys ≡ false)
not_member-parts x y ys h = let p = or_parts (eqb x y) (member x ys) h in (eqb-false x y p.0, p.1)

-- what has no member is empty
pub no_member-empty : (xs : List ℕ) → ((v : ℕ) → member v xs ≡ false) → xs ≡ []
no_member-empty [] h = refl
no_member-empty (x ∷ xs) h = absurd (false≢true (sym (h x) ∙ member-head x xs))

-- a member of two lists joined is in one of them
pub member-append : (x : ℕ) (xs ys : List ℕ) → member x (xs ++ ys) ≡ true → (member x xs ≡ true) ⊎ (member x ys ≡ true)
member-append x [] ys h = inr h
member-append x (z ∷ xs) ys h =
    elim (member-cases x z (xs ++ ys) h) [
      | inl e ↦ inl (or_left (eqb x z) (member x xs) (eq-eqb x z e))
      | inr m ↦ elim (member-append x xs ys m) [ inl a ↦ inl (member-tail x z xs a) | inr b ↦ inr b ]
    ]

-- a member of the first list is in both joined
pub member-append_left : (x : ℕ) (xs ys : List ℕ) → member x xs ≡ true → member x (xs ++ ys) ≡ true
member-append_left x [] ys h = absurd (false≢true h)
member-append_left x (z ∷ xs) ys h =
    elim (member-cases x z xs h)
    [ inl e ↦ or_left (eqb x z) (member x (xs ++ ys)) (eq-eqb x z e) | inr m ↦ member-tail x z (xs ++ ys) (member-append_left x xs ys m) ]

-- a member of the second list is in both joined
pub member-append_right : (x : ℕ) (xs ys : List ℕ) → member x ys ≡ true → member x (xs ++ ys) ≡ true
member-append_right x [] ys h = h
member-append_right x (z ∷ xs) ys h = member-tail x z (xs ++ ys) (member-append_right x xs ys h)

-- what is not in two lists joined is in neither
pub not_member-append : (x : ℕ) (xs ys : List ℕ) → member x (xs ++ ys) ≡ false → (member x xs ≡ false) × (member x ys ≡ false)
not_member-append x xs ys h = (
  false_from_ne_true (member x xs) (λ m. true≢false (sym (member-append_left x xs ys m) ∙ h)),
  false_from_ne_true (member x ys) (λ m. true≢false (sym (member-append_right x xs ys m) ∙ h)),
)

-- what is in neither of two lists is not in both joined
pub append-not_member : (x : ℕ) (xs ys : List ℕ) → member x xs ≡ false → member x ys ≡ false → member x (xs ++ ys) ≡ false
append-not_member x xs ys a b =
    false_from_ne_true (member x (xs ++ ys))
    (λ m. elim (member-append x xs ys m) [ inl p ↦ true≢false (sym p ∙ a) | inr p ↦ true≢false (sym p ∙ b) ])

-- a list cut at a member: what stands before it, and what behind
pub record Cut (x : ℕ) (xs : List ℕ) : Type 0 where
  pub front : List ℕ
  pub back : List ℕ
  pub is : xs ≡ front ++ x ∷ back

-- a list can be cut at each of its members
pub member-cut : (x : ℕ) (xs : List ℕ) → member x xs ≡ true → Cut x xs
member-cut x [] h = absurd (false≢true h)
member-cut x (y ∷ ys) h = elim (member-cases x y ys h) [
  | inl e ↦ record { front = []; back = ys; is = ap (λ z. z ∷ ys) (sym e) }
  | inr m ↦ let c = member-cut x ys m in record { front = y ∷ c.front; back = c.back; is = ap (λ zs. y ∷ zs) c.is }
]

-- where a distinct list is cut at x, x is on neither side, and both sides joined are distinct
pub Distinct-cut : (x : ℕ) (l r : List ℕ) → Distinct (l ++ x ∷ r) → (member x l ≡ false) × (member x r ≡ false) × Distinct (l ++ r)
Distinct-cut x [] r d = (refl, d.0, d.1)
Distinct-cut x (y ∷ l) r d =
    let rest = Distinct-cut x l r d.1 in
    let ym = not_member-append y l (x ∷ r) d.0 in
    let yx = not_member-parts y x r ym.1 in
    (not_member-cons x y l (λ e. yx.0 (sym e)) rest.0, rest.1, (append-not_member y l r ym.0 yx.1, rest.2))

-- a distinct list stays distinct when a number that it has not is put anywhere in it
pub Distinct-insert : (x : ℕ) (l r : List ℕ) → Distinct (l ++ r) → member x (l ++ r) ≡ false → Distinct (l ++ x ∷ r)
Distinct-insert x [] r d h = (h, d)
Distinct-insert x (y ∷ l) r d h =
    let p = not_member-parts x y (l ++ r) h in
    let ym = not_member-append y l r d.0 in
    (append-not_member y l (x ∷ r) ym.0 (not_member-cons y x r (λ e. p.0 (sym e)) ym.1), Distinct-insert x l r d.1 p.1)

-- a list without what it has not is the list itself
pub without-none : (x : ℕ) (xs : List ℕ) → member x xs ≡ false → without x xs ≡ xs
without-none x [] h = refl
without-none x (y ∷ ys) h = let p = not_member-parts x y ys h in rw (ne_eqb x y p.0) (ap (λ zs. y ∷ zs) (without-none x ys p.1))

-- a list that has x at one place is, without x, what stands before and behind joined
pub without-cut : (x : ℕ) (l r : List ℕ) → member x l ≡ false → member x r ≡ false → without x (l ++ x ∷ r) ≡ l ++ r
without-cut x [] r a b = rw (eq-eqb x x refl) (without-none x r b)
without-cut x (y ∷ l) r a b = let p = not_member-parts x y l a in rw (ne_eqb x y p.0) (ap (λ zs. y ∷ zs) (without-cut x l r p.1 b))

-- a list whose head is x is, without x, what is behind the head without x
pub without-here : (x z : ℕ) (zs : List ℕ) → x ≡ z → without x (z ∷ zs) ≡ without x zs
without-here x z zs e = ap (λ b. cond b (without x zs) (z ∷ without x zs)) (eq-eqb x z e)

-- a list whose head is not x keeps the head without x
pub without-next : (x z : ℕ) (zs : List ℕ) → x ≢ z → without x (z ∷ zs) ≡ z ∷ without x zs
without-next x z zs ne = ap (λ b. cond b (without x zs) (z ∷ without x zs)) (ne_eqb x z ne)

-- two lists joined without x are both without x joined
pub without-append : (x : ℕ) (l r : List ℕ) → without x (l ++ r) ≡ without x l ++ without x r
without-append x [] r = refl
without-append x (y ∷ l) r =
    elim (eqb x y) as (λ b. cond b (without x (l ++ r)) (y ∷ without x (l ++ r)) ≡ cond b (without x l) (y ∷ without x l) ++ without x r) [
      | true ↦ without-append x l r
      | false ↦ ap (λ zs. y ∷ zs) (without-append x l r)
    ]

-- what is put right after p stands right behind the place where p is first
pub right_after-cut : (x p : ℕ) (l r : List ℕ) → member p l ≡ false → right_after x p (l ++ p ∷ r) ≡ l ++ p ∷ x ∷ r
right_after-cut x p [] r a = rw (eq-eqb p p refl) refl
right_after-cut x p (y ∷ l) r a = let q = not_member-parts p y l a in rw (ne_eqb p y q.0) (ap (λ zs. y ∷ zs) (right_after-cut x p l r q.1))

-- what stands right after x is the first of what is behind it, or the end
pub next_of-cut : (e x : ℕ) (l r : List ℕ) → member x l ≡ false → next_of e x (l ++ x ∷ r) ≡ head_or e r
next_of-cut e x [] r a = rw (eq-eqb x x refl) refl
next_of-cut e x (y ∷ l) r a = let q = not_member-parts x y l a in rw (ne_eqb x y q.0) (next_of-cut e x l r q.1)

-- what stands right before x is the last of what is before it, or the start
pub prev_of-cut : (e x : ℕ) (l r : List ℕ) → member x l ≡ false → prev_of e x (l ++ x ∷ r) ≡ last_or e l
prev_of-cut e x [] r a = rw (eq-eqb x x refl) refl
prev_of-cut e x (y ∷ l) r a = let q = not_member-parts x y l a in rw (ne_eqb x y q.0) (prev_of-cut y x l r q.1)

-- the last of a list, or what stands for none, is one of the two
pub member-last_or : (e : ℕ) (l : List ℕ) → member (last_or e l) (e ∷ l) ≡ true
member-last_or e [] = member-head e []
member-last_or e (y ∷ l) = member-tail (last_or y l) e (y ∷ l) (member-last_or y l)

-- a list cut before its last
pub record Ended (xs : List ℕ) : Type 0 where
  pub front : List ℕ
  pub last : ℕ
  pub is : xs ≡ front ++ last ∷ []

-- a list that is not empty has a last
pub list-ended : (x : ℕ) (xs : List ℕ) → Ended (x ∷ xs)
list-ended x [] = record { front = []; last = x; is = refl }
list-ended x (y ∷ ys) = let e = list-ended y ys in record { front = x ∷ e.front; last = e.last; is = ap (λ zs. x ∷ zs) e.is }

-- the last after a push is what was pushed
pub last_or-push : (e : ℕ) (l : List ℕ) (x : ℕ) → last_or e (l ++ x ∷ []) ≡ x
last_or-push e [] x = refl
last_or-push e (y ∷ l) x = last_or-push y l x

-- what is in a list without x was in the list, and is not x
pub member-without : (y x : ℕ) (zs : List ℕ) → member y (without x zs) ≡ true → (member y zs ≡ true) × (y ≡ x → ⊥)
member-without y x [] h = absurd (false≢true h)
member-without y x (z ∷ zs) h =
    elim (cases_Bool (eqb x z)) [
      | inl t ↦ let k = member-without y x zs (ap (λ b. member y (cond b (without x zs) (z ∷ without x zs))) (sym t) ∙ h) in (member-tail y z zs k.0, k.1)
      | inr f ↦
          let h' : member y (z ∷ without x zs) ≡ true = ap (λ b. member y (cond b (without x zs) (z ∷ without x zs))) (sym f) ∙ h in
          elim (member-cases y z (without x zs) h') [
            | inl e ↦ (or_left (eqb y z) (member y zs) (eq-eqb y z e), λ w. eqb-false x z f (sym w ∙ e))
            | inr m ↦ let k = member-without y x zs m in (member-tail y z zs k.0, k.1)
          ]
    ]

-- a member that is not x is in the list without x
pub without-member : (y x : ℕ) (zs : List ℕ) → member y zs ≡ true → (y ≡ x → ⊥) → member y (without x zs) ≡ true
without-member y x [] h ne = h
without-member y x (z ∷ zs) h ne =
    elim (eqb x z) as (λ b. eqb x z ≡ b → member y (cond b (without x zs) (z ∷ without x zs)) ≡ true) [
      | true ↦ λ t. elim (member-cases y z zs h) [ inl e ↦ absurd (ne (e ∙ sym (eqb-true x z t))) | inr m ↦ without-member y x zs m ne ]
      | false ↦ λ _. elim (member-cases y z zs h) [ inl e ↦ or_left (eqb y z) _ (eq-eqb y z e) | inr m ↦ member-tail y z _ (without-member y x zs m ne) ]
    ] refl

-- another than the number taken out is in the list just where it was
pub member-without_other : (x z : ℕ) (l : List ℕ) → x ≢ z → member x (without z l) ≡ member x l
member-without_other x z [] d = refl
member-without_other x z (w ∷ l) d =
    elim (eqb z w) as (λ b. eqb z w ≡ b → member x (cond b (without z l) (w ∷ without z l)) ≡ member x (w ∷ l)) [
      | true ↦ λ t. member-without_other x z l d ∙ sym (rw (ne_eqb x w (λ e. d (e ∙ sym (eqb-true z w t)))) refl)
      | false ↦ λ _. rw (member-without_other x z l d) refl
    ] refl

-- x is not in the list without x
pub not_member-without : (x : ℕ) (zs : List ℕ) → member x (without x zs) ≡ false
not_member-without x zs = false_from_ne_true (member x (without x zs)) (λ m. (member-without x x zs m).1 refl)

-- a distinct list without x is distinct
pub Distinct-without : (x : ℕ) (zs : List ℕ) → Distinct zs → Distinct (without x zs)
Distinct-without x [] d = tt
Distinct-without x (z ∷ zs) d =
    elim (eqb x z) as (λ b. Distinct (cond b (without x zs) (z ∷ without x zs))) [
      | true ↦ Distinct-without x zs d.1
      | false ↦ (false_from_ne_true (member z (without x zs)) (λ m. true≢false (sym (member-without z x zs m).0 ∙ d.0)), Distinct-without x zs d.1)
    ]

-- a distinct list without x has at most one less
pub length-without : (x : ℕ) (zs : List ℕ) → Distinct zs → length zs ≤ suc (length (without x zs))
length-without x [] d = omega arith
length-without x (z ∷ zs) d =
    elim (cases_Bool (eqb x z)) [
      | inl t ↦ rw t (omega (arith, ap length (without-none x zs (ap (λ w. member w zs) (eqb-true x z t) ∙ d.0))))
      | inr f ↦ rw f (omega (arith, length-without x zs d.1))
    ]

-- distinct numbers below a bound are no more than the bound
pub below_bound : (s : ℕ) (xs : List ℕ) → Distinct xs → ((x : ℕ) → member x xs ≡ true → x < s) → length xs ≤ s
below_bound s [] d f = omega arith
below_bound zero (x ∷ xs) d f = absurd (omega (arith, f x (member-head x xs)))
below_bound (suc s) (x ∷ xs) d f =
    let less : length (without s (x ∷ xs)) ≤ s = below_bound s (without s (x ∷ xs)) (Distinct-without s (x ∷ xs) d)
    (λ y m. let k = member-without y s (x ∷ xs) m in let low : y < suc s = f y k.0 in let ne : y ≡ s → ⊥ = k.1 in omega arith) in
    omega (arith, less, length-without s (x ∷ xs) d)

-- when x is put right after p, a member is x or was one before
pub member-right_after : (y x p : ℕ) (zs : List ℕ) → member y (right_after x p zs) ≡ true → (y ≡ x) ⊎ (member y zs ≡ true)
member-right_after y x p [] h = inr h
member-right_after y x p (z ∷ zs) h =
    elim (eqb p z) as (λ b. member y (cond b (z ∷ x ∷ zs) (z ∷ right_after x p zs)) ≡ true → (y ≡ x) ⊎ (member y (z ∷ zs) ≡ true)) [
      | true ↦ λ m. elim (member-cases y z (x ∷ zs) m) [
        | inl e ↦ inr (or_left (eqb y z) (member y zs) (eq-eqb y z e))
        | inr k ↦ elim (member-cases y x zs k) [ inl e ↦ inl e | inr k' ↦ inr (member-tail y z zs k') ]
      ]
      | false ↦ λ m. elim (member-cases y z (right_after x p zs) m) [
        | inl e ↦ inr (or_left (eqb y z) (member y zs) (eq-eqb y z e))
        | inr k ↦ elim (member-right_after y x p zs k) [ inl e ↦ inl e | inr k' ↦ inr (member-tail y z zs k') ]
      ]
    ] h

-- where p is a member, x and all members are members when x is put right after p
pub right_after-member : (y x p : ℕ) (zs : List ℕ) → member p zs ≡ true → (y ≡ x) ⊎ (member y zs ≡ true) → member y (right_after x p zs) ≡ true
right_after-member y x p [] m h = absurd (false≢true m)
right_after-member y x p (z ∷ zs) m h =
    elim (eqb p z) as (λ b. eqb p z ≡ b → member y (cond b (z ∷ x ∷ zs) (z ∷ right_after x p zs)) ≡ true) [
      | true ↦ λ _. elim h [
        | inl e ↦ member-tail y z (x ∷ zs) (or_left (eqb y x) (member y zs) (eq-eqb y x e))
        | inr k ↦ elim (member-cases y z zs k) [ inl e ↦ or_left (eqb y z) _ (eq-eqb y z e) | inr k' ↦ member-tail y z (x ∷ zs) (member-tail y x zs k') ]
      ]
      | false ↦ λ f.
          let m' : member p zs ≡ true = elim (member-cases p z zs m) [ inl e ↦ absurd (eqb-false p z f e) | inr k ↦ k ] in
          elim h [
            | inl e ↦ member-tail y z (right_after x p zs) (right_after-member y x p zs m' (inl e))
            | inr k ↦
                elim (member-cases y z zs k) [
                  | inl e ↦ or_left (eqb y z) _ (eq-eqb y z e)
                  | inr k' ↦ member-tail y z (right_after x p zs) (right_after-member y x p zs m' (inr k'))
                ]
          ]
    ] refl

-- a distinct list stays distinct when a number that it has not is put right after p
pub Distinct-right_after : (x p : ℕ) (zs : List ℕ) → Distinct zs → member x zs ≡ false → Distinct (right_after x p zs)
Distinct-right_after x p [] d h = tt
Distinct-right_after x p (z ∷ zs) d h =
    let q = not_member-parts x z zs h in
    elim (eqb p z) as (λ b. Distinct (cond b (z ∷ x ∷ zs) (z ∷ right_after x p zs))) [
      | true ↦ (not_member-cons z x zs (λ e. q.0 (sym e)) d.0, (q.1, d.1))
      | false ↦ (
        false_from_ne_true (member z (right_after x p zs))
            (λ m. elim (member-right_after z x p zs m) [ inl e ↦ q.0 (sym e) | inr k ↦ true≢false (sym k ∙ d.0) ]),
        Distinct-right_after x p zs d.1 q.1,
      )
    ]

-- the first of a rest, or what stands for none, is that or a member
head_in : (e z : ℕ) (zs : List ℕ) → (head_or e zs ≡ e) ⊎ (member (head_or e zs) (z ∷ zs) ≡ true)
head_in e z [] = inl refl
head_in e z (y ∷ ys) = inr (member-tail y z (y ∷ ys) (member-head y ys))

-- what stands right after x is the end, or a member
pub next_of-in : (e x : ℕ) (zs : List ℕ) → (next_of e x zs ≡ e) ⊎ (member (next_of e x zs) zs ≡ true)
next_of-in e x [] = inl refl
next_of-in e x (z ∷ zs) =
    elim (eqb x z) as (λ b. (cond b (head_or e zs) (next_of e x zs) ≡ e) ⊎ (member (cond b (head_or e zs) (next_of e x zs)) (z ∷ zs) ≡ true)) [
      | true ↦ head_in e z zs
      | false ↦ elim (next_of-in e x zs) [ inl q ↦ inl q | inr m ↦ inr (member-tail (next_of e x zs) z zs m) ]
    ]

-- the place of x is the length of what stands before it
pub place_of-cut : (x : ℕ) (l r : List ℕ) → member x l ≡ false → place_of x (l ++ x ∷ r) ≡ length l
place_of-cut x [] r a = rw (eq-eqb x x refl) refl
place_of-cut x (y ∷ l) r a = let q = not_member-parts x y l a in rw (ne_eqb x y q.0) (ap suc (place_of-cut x l r q.1))

-- the first number of a list stands at place 0
pub place_of-first : (y v : ℕ) (vs : List ℕ) → y ≡ v → place_of y (v ∷ vs) ≡ 0
place_of-first y v vs e = ap (λ b. cond b 0 (suc (place_of y vs))) (eq-eqb y v e)

-- another number stands one place later with one in front of the list
pub place_of-next : (y v : ℕ) (vs : List ℕ) → y ≢ v → place_of y (v ∷ vs) ≡ suc (place_of y vs)
place_of-next y v vs ne = ap (λ b. cond b 0 (suc (place_of y vs))) (ne_eqb y v ne)

-- the place of what is no member is the length of the list
pub place_of-none : (x : ℕ) (xs : List ℕ) → member x xs ≡ false → place_of x xs ≡ length xs
place_of-none x [] m = refl
place_of-none x (y ∷ ys) m = let k = not_member-parts x y ys m in rw (ne_eqb x y k.0) (ap suc (place_of-none x ys k.1))

-- a list is empty, or has a last
pub some_or_none : (xs : List ℕ) → (xs ≡ []) ⊎ Ended xs
some_or_none [] = inl refl
some_or_none (x ∷ xs) = inr (list-ended x xs)

-- what stands before x stands at a lesser place
pub prev-place : (e x : ℕ) (xs : List ℕ) → Distinct xs → member x xs ≡ true → ((y : ℕ) → member y xs ≡ true → (y ≡ e → ⊥))
    → (prev_of e x xs ≡ e → ⊥) → (member (prev_of e x xs) xs ≡ true) × (suc (place_of (prev_of e x xs) xs) ≡ place_of x xs)
prev-place e x xs d m f ne =
    let c = member-cut x xs m in
    let apart = Distinct-cut x c.front c.back (subst Distinct c.is d) in
    let is : prev_of e x xs ≡ last_or e c.front = ap (prev_of e x) c.is ∙ prev_of-cut e x c.front c.back apart.0 in
    elim (some_or_none c.front) [
      | inl none ↦ absurd (ne (is ∙ ap (last_or e) none))
      | inr some ↦
          let w : Ended c.front = some in
          let last : prev_of e x xs ≡ w.last = is ∙ (ap (last_or e) w.is ∙ last_or-push e w.front w.last) in
          let split : xs ≡ w.front ++ w.last ∷ (x ∷ c.back) = c.is ∙ (ap (λ zs. zs ++ x ∷ c.back) w.is ∙ append_assoc w.front (w.last ∷ []) (x ∷ c.back)) in
          let apart' = Distinct-cut w.last w.front (x ∷ c.back) (subst Distinct split d) in
          let place : place_of (prev_of e x xs) xs ≡ length w.front =
          ap (λ z. place_of z xs) last ∙ (ap (place_of w.last) split ∙ place_of-cut w.last w.front (x ∷ c.back) apart'.0) in
          let place-x : place_of x xs ≡ length c.front = ap (place_of x) c.is ∙ place_of-cut x c.front c.back apart.0 in (
            ap (λ z. member z xs) last
                ∙ (ap (member w.last) split ∙ member-append_right w.last w.front (w.last ∷ x ∷ c.back) (member-head w.last (x ∷ c.back))),
            omega (arith, place, place-x, ap length w.is, length-append w.front (w.last ∷ [])),
          )
    ]
