-- Places in a list, one number after the other.
use Rattle.std.proofs.Common.{◌≡◌, ◌≢◌, ℕ, suc, Bool, true, false, cond, ◌||◌, List, [], ◌∷◌, ◌++◌, Some, None, length, eqb, refl, sym, ◌∙◌, ap, ap₂}
use Rattle.std.proofs.Common.{inl, inr, true≢false, eq-eqb, ne_eqb}
use Rattle.std.specs.Prelude.{is_some}
use Rattle.std.proofs.lemmas.Bool.{cases_eq, false≢true, false_from_ne_true, or_right}
use Rattle.std.proofs.Math.Bool.{or-false}
use Rattle.kc_lists.specs.Lists.{member, Distinct, place_of}
use Rattle.kc_lists.proofs.Members.{not_member-parts, place_of-first, place_of-next}
use Rattle.kc_lists.proofs.Counting.{member-push, member-push_left, member-other}
use Rattle.kc_cert.specs.Shifting.{place_in}
use Rattle.kc_cert.proofs.Chaining.{place_of-push}

-- a place is found just for the members
pub place_in-some : (xs : List ℕ) (x : ℕ) → is_some (place_in xs x) ≡ member x xs
place_in-some xs x = elim (member x xs) as (λ b. is_some (cond b (Some (place_of x xs)) None) ≡ b) [ true ↦ refl | false ↦ refl ]

-- a new number put at the end stands at the place of the list's length
place_of-end : (x : ℕ) (xs : List ℕ) → member x xs ≡ false → place_of x (xs ++ x ∷ []) ≡ length xs
place_of-end x [] n = place_of-first x x [] refl
place_of-end x (y ∷ ys) n = let p = not_member-parts x y ys n in place_of-next x y (ys ++ x ∷ []) p.0 ∙ ap suc (place_of-end x ys p.1)

-- two places are found alike where both are members, at one place, or neither
place_in-by : (xs ys : List ℕ) (x y : ℕ) (b c : Bool) → member x xs ≡ b → member y ys ≡ c → b ≡ c
    → (c ≡ true → place_of x xs ≡ place_of y ys) → place_in xs x ≡ place_in ys y
place_in-by xs ys x y true true mb mc e same =
    ap₂ (λ (t : Bool) (k : ℕ). cond t (Some k) None) mb (same refl) ∙ sym (ap (λ t. cond t (Some (place_of y ys)) None) mc)
place_in-by xs ys x y false false mb mc e same = ap (λ t. cond t (Some (place_of x xs)) None) mb ∙ sym (ap (λ t. cond t (Some (place_of y ys)) None) mc)
place_in-by xs ys x y true false mb mc e same = absurd (true≢false e)
place_in-by xs ys x y false true mb mc e same = absurd (false≢true e)

-- one number more at the end leaves the place of each other one, and its own where it was there
other-push : (x q : ℕ) (xs : List ℕ) → (q ≡ x → member q xs ≡ true) → place_in (xs ++ x ∷ []) q ≡ place_in xs q
other-push x q xs there =
    let same : member q (xs ++ x ∷ []) ≡ member q xs = elim (cases_eq q x) [
      | inl e ↦ member-push_left q x xs (there e) ∙ sym (there e)
      | inr ne ↦ member-push q x xs ∙ (ap (λ b. member q xs || b) (ne_eqb q x ne) ∙ or-false (member q xs))
    ] in
    place_in-by (xs ++ x ∷ []) xs q q (member q (xs ++ x ∷ [])) (member q xs) refl refl same (λ m. place_of-push q x xs m)

-- a number that comes again
pub place_in-again : (x q : ℕ) (xs : List ℕ) → member x xs ≡ true → place_in (xs ++ x ∷ []) q ≡ place_in xs q
place_in-again x q xs m = other-push x q xs (λ e. ap (λ k. member k xs) e ∙ m)

-- a new number
pub place_in-push : (x q : ℕ) (xs : List ℕ) → member x xs ≡ false → place_in (xs ++ x ∷ []) q ≡ cond (eqb x q) (Some (length xs)) (place_in xs q)
place_in-push x q xs n = elim (cases_eq x q) [
  | inl e ↦
      let here : place_in (xs ++ x ∷ []) x ≡ Some (length xs) =
      ap₂ (λ (t : Bool) (k : ℕ). cond t (Some k) None) (member-push x x xs ∙ or_right (member x xs) (eqb x x) (eq-eqb x x refl)) (place_of-end x xs n) in
      ap (place_in (xs ++ x ∷ [])) (sym e) ∙ (here ∙ sym (ap (λ b. cond b (Some (length xs)) (place_in xs q)) (eq-eqb x q e)))
  | inr ne ↦ other-push x q xs (λ e. absurd (ne (sym e))) ∙ sym (ap (λ b. cond b (Some (length xs)) (place_in xs q)) (ne_eqb x q ne))
]

-- where a list with one more has each number once, so has the list, and the one is new
pub Distinct-pushed : (xs : List ℕ) (x : ℕ) → Distinct (xs ++ x ∷ []) → Distinct xs × (member x xs ≡ false)
Distinct-pushed [] x d = (tt, refl)
Distinct-pushed (y ∷ ys) x d =
    let rest = Distinct-pushed ys x d.1 in
    let none : member y ys ≡ false = false_from_ne_true (member y ys) (λ m. true≢false (sym (member-push_left y x ys m) ∙ d.0)) in
    let apart : x ≢ y = λ e. true≢false (sym (member-push y x ys ∙ or_right (member y ys) (eqb y x) (eq-eqb y x (sym e))) ∙ d.0) in
    ((none, rest.0), false_from_ne_true (member x (y ∷ ys)) (λ m. true≢false (sym (member-other x y ys apart m) ∙ rest.1)))
