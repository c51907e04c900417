-- The front of a list, and shifts that gain one at their end.
use Rattle.std.proofs.Common.{◌≡◌, ℕ, suc, zero, true, List, [], ◌∷◌, ◌++◌, take, eqb, refl, ap, inl, inr, eq-eqb}
use Rattle.std.proofs.lemmas.Bool.{false≢true, or_left}
use Rattle.kc_cert.specs.Local.{firsts, seconds}
use Rattle.kc_lists.specs.Lists.{member}
use Rattle.kc_lists.proofs.Members.{member-tail, member-cases}

-- who stands in front stands in the list
pub take-member : (n : ℕ) (xs : List ℕ) (y : ℕ) → member y (take n xs) ≡ true → member y xs ≡ true
take-member zero xs y m = absurd (false≢true m)
take-member (suc n) [] y m = m
take-member (suc n) (x ∷ xs) y m =
    elim (member-cases y x (take n xs) m)
    [ inl e ↦ or_left (eqb y x) (member y xs) (eq-eqb y x e) | inr k ↦ member-tail y x xs (take-member n xs y k) ]

-- one shift more names one vertex more that is put behind another
pub firsts-push : (shifts : List (ℕ × ℕ)) (x w : ℕ) → firsts (shifts ++ (x, w) ∷ []) ≡ firsts shifts ++ x ∷ []
firsts-push [] x w = refl
firsts-push (p ∷ shifts) x w = ap (λ ys. p.0 ∷ ys) (firsts-push shifts x w)

-- and one more behind which it is put
pub seconds-push : (shifts : List (ℕ × ℕ)) (x w : ℕ) → seconds (shifts ++ (x, w) ∷ []) ≡ seconds shifts ++ w ∷ []
seconds-push [] x w = refl
seconds-push (p ∷ shifts) x w = ap (λ ys. p.1 ∷ ys) (seconds-push shifts x w)
