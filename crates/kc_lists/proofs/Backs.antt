-- The backs of lists: what stands behind the first, and what stands in lists with the same back.
use Rattle.std.proofs.Common.{◌≡◌, ◌+◌, ℕ, suc, List, ◌∷◌, drop, get_or, sym, ap, ◌∙◌, arith}
use Rattle.std.proofs.lemmas.List.{get_or-drop}

-- what stands at a place of lists with the same back
pub get_or-back : (xs ys : List ℕ) (i : ℕ) → drop i xs ≡ drop i ys → get_or xs i 0 ≡ get_or ys i 0
get_or-back xs ys i e =
    let zeroth : i + 0 ≡ i = omega arith in
    ap (λ (k : ℕ). get_or xs k 0) (sym zeroth) ∙ sym (get_or-drop i xs 0 0) ∙ ap (λ (t : List ℕ). get_or t 0 0) e ∙ get_or-drop i ys 0 0
    ∙ ap (λ (k : ℕ). get_or ys k 0) zeroth

-- the number behind the first one
pub behind-first : (first : ℕ) (xs : List ℕ) (k : ℕ) → get_or (first ∷ xs) (k + 1) 0 ≡ get_or xs k 0
behind-first first xs k = let next : k + 1 ≡ suc k = omega arith in ap (λ (i : ℕ). get_or (first ∷ xs) i 0) next
