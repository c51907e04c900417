-- Beginnings of one list, images of lists of distinct numbers, and counts over lists of lists.
use Rattle.std.proofs.Common.{◌≡◌, inl, inr, ℕ, ◌<◌, ◌≤◌, true, false, List, [], ◌∷◌, ◌++◌, get_or, length, map, sym, ap, ◌∙◌, subst, arith}
use Rattle.std.proofs.Common.{append-nil, length-append}
use mathlib.Core.List.{IsPrefix}
use Rattle.std.proofs.lemmas.Bool.{cases_Bool, cases_lt, true≢false, false_from_ne_true}
use Rattle.std.proofs.lemmas.List.{get_or_append_left, get_or_push, nil_from_length}
use Rattle.kc_lists.specs.Lists.{Distinct, member}
use Rattle.kc_lists.proofs.Members.{below_bound, member-cases, member-head, member-tail}
use Rattle.kc_table.proofs.Prefixes.{prefix_either}

module _ {A : Type 0} where
  -- a list that is no longer than its front has nothing more
  nothing-more : (xs ys more : List A) → xs ++ more ≡ ys → length ys ≤ length xs → more ≡ []
  nothing-more xs ys more is le = nil_from_length more (omega (arith, ap length is, length-append xs more))

  -- of two beginnings of one list the shorter one begins the other
  pub prefix-shorter : (xs ys zs : List A) → IsPrefix xs zs → IsPrefix ys zs → length xs ≤ length ys → IsPrefix xs ys
  prefix-shorter xs ys zs p q le = elim (prefix_either xs ys zs p q) [
    | inl h ↦ h
    | inr h ↦ ([], append-nil xs ∙ (sym h.1 ∙ (ap (λ (z : List A). ys ++ z) (nothing-more ys xs h.0 h.1 le) ∙ append-nil ys)))
  ]

  -- and two of one length are the same
  pub prefix-same : (xs ys zs : List A) → IsPrefix xs zs → IsPrefix ys zs → length xs ≡ length ys → xs ≡ ys
  prefix-same xs ys zs p q same =
      let h = prefix-shorter xs ys zs p q (omega arith) in
      sym (append-nil xs) ∙ (ap (λ (z : List A). xs ++ z) (sym (nothing-more xs ys h.0 h.1 (omega arith))) ∙ h.1)

-- what is a member has its image in the list of images
pub member-image : (f : ℕ → ℕ) (x : ℕ) (xs : List ℕ) → member x xs ≡ true → member (f x) (map f xs) ≡ true
member-image f x [] m = m
member-image f x (y ∷ ys) m = elim (member-cases x y ys m) [
  | inl e ↦ subst (λ (z : ℕ). member (f z) (f y ∷ map f ys) ≡ true) (sym e) (member-head (f y) (map f ys))
  | inr k ↦ member-tail (f x) (f y) (map f ys) (member-image f x ys k)
]

-- numbers whose images are distinct are distinct
pub distinct-images : (f : ℕ → ℕ) (xs : List ℕ) → Distinct (map f xs) → Distinct xs
distinct-images f [] d = tt
distinct-images f (x ∷ xs) d =
    (false_from_ne_true (member x xs) (λ m. true≢false (sym (member-image f x xs m) ∙ d.0)), distinct-images f xs d.1)

-- no number's image is both among the images of a list and not
image-clash : (x y : ℕ) (xs : List ℕ) (f : ℕ → ℕ) → y ≡ f x → member y (map f xs) ≡ true → member (f x) (map f xs) ≡ false → ⊥
image-clash x y xs f e m away = true≢false (sym (subst (λ (z : ℕ). member z (map f xs) ≡ true) e m) ∙ away)

-- of numbers with distinct images, two with one image are one
pub images-apart : (f : ℕ → ℕ) (xs : List ℕ) (a b : ℕ) → Distinct (map f xs) → member a xs ≡ true → member b xs ≡ true → f a ≡ f b → a ≡ b
images-apart f [] a b d in_a in_b same = absurd (true≢false (sym in_a))
images-apart f (x ∷ xs) a b d in_a in_b same = elim (member-cases a x xs in_a) [
  | inl ea ↦ elim (member-cases b x xs in_b) [
    | inl eb ↦ ea ∙ sym eb
    | inr kb ↦ absurd (image-clash x (f b) xs f (sym same ∙ ap f ea) (member-image f b xs kb) d.0)
  ]
  | inr ka ↦ elim (member-cases b x xs in_b) [
    | inl eb ↦ absurd (image-clash x (f a) xs f (same ∙ ap f eb) (member-image f a xs ka) d.0)
    | inr kb ↦ images-apart f xs a b d.1 ka kb same
  ]
]

-- as many distinct numbers below `n` as `n` are all of them
pub all-below : (n : ℕ) (xs : List ℕ) → Distinct xs → ((x : ℕ) → member x xs ≡ true → x < n) → length xs ≡ n → (x : ℕ) → x < n → member x xs ≡ true
all-below n xs d low long x here = elim (cases_Bool (member x xs)) [
  | inl m ↦ m
  | inr away ↦ absurd (too_many (below_bound n (x ∷ xs) (away, d) (λ y m. elim (member-cases y x xs m) [ inl e ↦ omega (arith, e) | inr k ↦ low y k ])))
]
  where
    too_many : length (x ∷ xs) ≤ n → ⊥
    too_many le = omega arith

-- Each has the number of its place, also one that is put at the end under the number of those before it.
pub numbered-more : {A : Type 0} (number : A → ℕ) (xs new : List A) (x : A) → new ≡ xs ++ x ∷ [] → number x ≡ length xs
    → ((i : ℕ) (d : A) → i < length xs → number (get_or xs i d) ≡ i) → (i : ℕ) (d : A) → i < length new → number (get_or new i d) ≡ i
numbered-more {A} number xs new x is here before i d low = elim (cases_lt i (length xs)) [
  | inl l ↦ ap (λ (z : List A). number (get_or z i d)) is ∙ (ap number (get_or_append_left xs (x ∷ []) d i l) ∙ before i d l)
  | inr past ↦
      let at : length xs ≡ i = omega (arith, past, ap (λ (z : List A). length z) is, length-append xs (x ∷ [])) in
      ap (λ (z : List A). number (get_or z i d)) is ∙ (ap number (get_or_push xs x d i at) ∙ (here ∙ at))
]
