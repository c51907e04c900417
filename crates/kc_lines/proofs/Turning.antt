-- What is made of the items of a list, turn by turn.
use Rattle.std.proofs.Common.{◌≡◌, ◌<◌, ◌+◌, ◌++◌, ◌∙◌, ℕ, suc, List, [], ◌∷◌, ap, append-nil, arith, drop, get_or, length, sym, take}
use Rattle.std.specs.List.{flat_map}
use Rattle.std.proofs.Math.Seq.{split_at, take-suc}
use Rattle.std.proofs.lemmas.Grind.{flat_map-append}

-- what is made of one item more is what was made before, and what is made of it
pub flat_map-turn : {X A : Type 0} (f : X → List A) (xs : List X) (i : ℕ) (x : X) → i < length xs → x ≡ get_or xs i x
    → flat_map f (take (i + 1) xs) ≡ flat_map f (take i xs) ++ f x
flat_map-turn f xs i x within is =
    let next : i + 1 ≡ suc i = omega arith in
    ap (λ n. flat_map f (take n xs)) next ∙ ap (flat_map f) (take-suc xs i x within) ∙ flat_map-append f (take i xs) (get_or xs i x ∷ [])
    ∙ ap (λ t. flat_map f (take i xs) ++ t) (append-nil (f (get_or xs i x))) ∙ ap (λ y. flat_map f (take i xs) ++ f y) (sym is)

-- what is made of all items is what is made of the first ones, of the next one and of the rest
pub flat_map-parts : {X A : Type 0} (f : X → List A) (xs : List X) (i : ℕ) (x : X) → i < length xs → x ≡ get_or xs i x
    → flat_map f (take i xs) ++ (f x ++ flat_map f (drop (suc i) xs)) ≡ flat_map f xs
flat_map-parts f xs i x within is =
    ap (λ y. flat_map f (take i xs) ++ (f y ++ flat_map f (drop (suc i) xs))) is
    ∙ sym (flat_map-append f (take i xs) (get_or xs i x ∷ drop (suc i) xs)) ∙ ap (flat_map f) (sym (split_at xs i x within))
