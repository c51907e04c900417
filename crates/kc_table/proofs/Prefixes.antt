-- Beginnings of one list.
use Rattle.std.proofs.Common.{◌≡◌, ◌⊎◌, List, length, arith, [], ◌∷◌, ◌++◌, refl, ap, sym, ◌∙◌, inl, inr, append_assoc, append-nil}
use mathlib.Core.List.{IsPrefix}

module _ {A : Type 0} where
  -- a list begins with itself
  pub prefix_self : (xs : List A) → IsPrefix xs xs
  prefix_self xs = ([], append-nil xs)

  -- a beginning of a beginning is one
  pub prefix_trans : (xs ys zs : List A) → IsPrefix xs ys → IsPrefix ys zs → IsPrefix xs zs
  prefix_trans xs ys zs p q = (p.0 ++ q.0, sym (append_assoc xs p.0 q.0) ∙ (ap (λ w. w ++ q.0) p.1 ∙ q.1))

  -- a beginning stays one with one item more
  pub prefix_push : (xs ys : List A) (y : A) → IsPrefix xs ys → IsPrefix xs (ys ++ y ∷ [])
  prefix_push xs ys y p = prefix_trans xs ys (ys ++ y ∷ []) p (y ∷ [], refl)

  -- the first item, or another where there is none
  abbrev first_or : A → List A → A
  first_or d [] = d
  first_or d (x ∷ xs) = x

  -- what stands behind the first item
  abbrev rest_of : List A → List A
  rest_of [] = []
  rest_of (x ∷ xs) = xs

  -- of two lists that go on to one, one begins the other
  pub prefix_either : (xs ys zs : List A) → IsPrefix xs zs → IsPrefix ys zs → IsPrefix xs ys ⊎ IsPrefix ys xs
  prefix_either [] ys zs p q = inl (ys, refl)
  prefix_either (x ∷ xs) [] zs p q = inr (x ∷ xs, refl)
  prefix_either (x ∷ xs) (y ∷ ys) [] p q = absurd (omega (arith, ap length p.1))
  prefix_either (x ∷ xs) (y ∷ ys) (z ∷ zs) p q =
      let heads : x ≡ y = ap (first_or x) p.1 ∙ sym (ap (first_or y) q.1) in
      elim (prefix_either xs ys zs (p.0, ap rest_of p.1) (q.0, ap rest_of q.1)) [
        | inl h ↦ inl (h.0, (λ i. heads i ∷ h.1 i))
        | inr h ↦ inr (h.0, (λ i. sym heads i ∷ h.1 i))
      ]
