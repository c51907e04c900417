-- Beginnings of one list, and lists of numbers one after the other.
use Rattle.std.proofs.Common.{◌≡◌, inl, inr, ◌≤◌, List, [], ◌++◌, length, sym, ap, ◌∙◌, arith}
use mathlib.Core.List.{IsPrefix}
use Rattle.kc_table.proofs.Prefixes.{prefix_either}
use Rattle.std.proofs.Common.{append-nil, length-append}
use Rattle.std.proofs.lemmas.List.{nil_from_length}

module _ {A : Type 0} where
  -- what goes on by nothing is the same
  ends-here : (xs ys more : List A) → xs ++ more ≡ ys → length ys ≤ length xs → xs ≡ ys
  ends-here xs ys more is le =
      let none : more ≡ [] = nil_from_length more (omega (arith, ap length is, length-append xs more)) in
      sym (append-nil xs) ∙ (ap (λ (z : List A). xs ++ z) (sym none) ∙ is)

  -- two beginnings of one list that are of one length are the same
  pub same-beginning : (xs ys zs : List A) → IsPrefix xs zs → IsPrefix ys zs → length xs ≡ length ys → xs ≡ ys
  same-beginning xs ys zs p q long = elim (prefix_either xs ys zs p q) [
    | inl h ↦ ends-here xs ys h.0 h.1 (omega (arith, long))
    | inr h ↦ sym (ends-here ys xs h.0 h.1 (omega (arith, long)))
  ]
