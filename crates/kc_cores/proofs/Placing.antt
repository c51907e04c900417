-- Texts that are put one place after another.
use Rattle.std.proofs.Common.{◌≡◌, ◌<◌, ◌≤◌, ◌++◌, ◌∙◌, ◌⊎◌, ℕ, zero, suc, Bool, true, false, cond, List, [], ◌∷◌, length, take}
use Rattle.std.proofs.Common.{ap, ap₂, append_assoc, append-nil, arith, get_or, inl, inr, refl, sym}
use Rattle.std.proofs.lemmas.List.Concat.{flat_map-append}
use Rattle.std.proofs.Math.Seq.{take-length, take-suc}
use Rattle.std.specs.List.{filter, flat_map}
use Rattle.kc_flat.specs.Listing.{ascending_below}
use Rattle.kc_flat.proofs.Listed.{flat_map-suc}

-- the same texts at each place below a number make the same text
pub flat_map-agree : (f h : ℕ → List ℕ) (n : ℕ) → ((k : ℕ) → k < n → f k ≡ h k) → flat_map f (ascending_below n) ≡ flat_map h (ascending_below n)
flat_map-agree f h zero same = refl
flat_map-agree f h (suc n) same =
    flat_map-suc f n ∙ ap₂ (λ s t. s ++ t) (flat_map-agree f h n (λ k l. same k (omega arith))) (same n (omega arith)) ∙ sym (flat_map-suc h n)

-- what stands at the places below a number is a front of what stands at those below a greater one
pub flat_map-front : (f : ℕ → List ℕ) (i n : ℕ) → i ≤ n → (rest : List ℕ) × (flat_map f (ascending_below n) ≡ flat_map f (ascending_below i) ++ rest)
flat_map-front f i zero h =
    let none : i ≡ 0 = omega arith in
    ([], sym (append-nil (flat_map f (ascending_below 0))) ∙ ap (λ m. flat_map f (ascending_below m) ++ []) (sym none))
flat_map-front f i (suc n) h = elim (cases i n h) [
  | inl e ↦ ([], ap (λ m. flat_map f (ascending_below m)) (sym e) ∙ sym (append-nil (flat_map f (ascending_below i))))
  | inr l ↦
      let (rest, is) = flat_map-front f i n l in
      (rest ++ f n, flat_map-suc f n ∙ ap (λ t. t ++ f n) is ∙ append_assoc (flat_map f (ascending_below i)) rest (f n))
]
  where
    cases : (a b : ℕ) → a ≤ suc b → (a ≡ suc b) ⊎ (a ≤ b)
    cases a b l = grind arith

-- what is made of those that pass is what is made of each, and nothing of those that do not
pub flat_map-filter : {X A : Type 0} (p : X → Bool) (f : X → List A) (xs : List X)
    → flat_map (λ x. cond (p x) (f x) []) xs ≡ flat_map f (filter p xs)
flat_map-filter p f [] = refl
flat_map-filter {X} {A} p f (x ∷ xs) = ap (λ t. cond (p x) (f x) [] ++ t) (flat_map-filter p f xs) ∙ go (p x)
  where
    go : (b : Bool) → cond b (f x) [] ++ flat_map f (filter p xs) ≡ flat_map f (cond b (x ∷ filter p xs) (filter p xs))
    go true = refl
    go false = refl

-- what is made of the numbers at the first places is what is made of the first numbers
places-front : {X A : Type 0} (f : X → List A) (d : X) (xs : List X) (n : ℕ) → n ≤ length xs
    → flat_map (λ i. f (get_or xs i d)) (ascending_below n) ≡ flat_map f (take n xs)
places-front f d xs zero h = refl
places-front f d xs (suc n) h =
    flat_map-suc (λ i. f (get_or xs i d)) n ∙ ap (λ t. t ++ f (get_or xs n d)) (places-front f d xs n (omega arith))
    ∙ ap (λ t. flat_map f (take n xs) ++ t) (sym (append-nil (f (get_or xs n d)))) ∙ sym (flat_map-append f (take n xs) (get_or xs n d ∷ []))
    ∙ sym (ap (flat_map f) (take-suc xs n d (omega arith)))

-- what is made of what stands at each place of a list is what is made of the list
pub flat_map-places : {X A : Type 0} (f : X → List A) (d : X) (xs : List X)
    → flat_map (λ i. f (get_or xs i d)) (ascending_below (length xs)) ≡ flat_map f xs
flat_map-places f d xs = places-front f d xs (length xs) (omega arith) ∙ ap (flat_map f) (take-length xs)
