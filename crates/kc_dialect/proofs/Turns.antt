-- Cutting the first part off a line.
use Rattle.std.proofs.Common.{◌≡◌, ◌≤◌, ◌<◌, ◌+◌, ◌&&◌, ℕ, Bool, true, false, not, cond, List, [], ◌∷◌, ◌++◌, length, get_or, take, drop, refl, sym, ap, ◌∙◌}
use Rattle.std.proofs.Common.{append_assoc, append-nil}
use Rattle.std.specs.List.{onto_first}
use Rattle.std.proofs.lemmas.Bool.{cases_Bool}
use Rattle.std.proofs.Common.{inl, inr}
use Rattle.std.proofs.lemmas.List.{drop_more, drop_all, take_more, take_all}
use Rattle.kc_dialect.specs.declared.dialect.Separator.{Separator}
use Rattle.kc_dialect.specs.Columns.{is_separator, parts, quoted_behind}

-- bytes in front of the first of parts
abbrev pub onto : List ℕ → List (List ℕ) → List (List ℕ)
onto bytes [] = bytes ∷ []
onto bytes (part ∷ rest) = (bytes ++ part) ∷ rest

-- a line has a first part
some_part : (s : Separator) (quoted : Bool) (bytes : List ℕ) → (part : List ℕ) × (rest : List (List ℕ)) × (parts s quoted bytes ≡ part ∷ rest)
some_part s quoted [] = ([], [], refl)
some_part s quoted (b ∷ bytes) =
    let (part, rest, e) = some_part s (quoted_behind s quoted b) bytes in
    let F : Bool → List (List ℕ) = λ t. cond t ([] ∷ parts s false bytes) (onto_first b (parts s (quoted_behind s quoted b) bytes)) in
    elim (cases_Bool (is_separator s b && not quoted)) [
      | inl h ↦ ([], parts s false bytes, ap F h)
      | inr h ↦ (b ∷ part, rest, ap F h ∙ ap (onto_first b) e)
    ]

-- a byte that ends no part goes in front of the first
parts-more : (s : Separator) (quoted : Bool) (b : ℕ) (bytes : List ℕ) → (is_separator s b && not quoted) ≡ false
    → parts s quoted (b ∷ bytes) ≡ onto_first b (parts s (quoted_behind s quoted b) bytes)
parts-more s quoted b bytes h = ap (λ t. cond t ([] ∷ parts s false bytes) (onto_first b (parts s (quoted_behind s quoted b) bytes))) h

-- a byte that ends a part
parts-end : (s : Separator) (quoted : Bool) (b : ℕ) (bytes : List ℕ) → (is_separator s b && not quoted) ≡ true
    → parts s quoted (b ∷ bytes) ≡ [] ∷ parts s false bytes
parts-end s quoted b bytes h = ap (λ t. cond t ([] ∷ parts s false bytes) (onto_first b (parts s (quoted_behind s quoted b) bytes))) h

-- one byte more in front of the first part
onto-more : (front : List ℕ) (b : ℕ) (part : List ℕ) (rest : List (List ℕ)) → onto front (onto_first b (part ∷ rest)) ≡ onto (front ++ b ∷ []) (part ∷ rest)
onto-more front b part rest = ap (λ (t : List ℕ). t ∷ rest) (sym (append_assoc front (b ∷ []) part))

-- nothing in front of the first part
pub onto-nothing : (s : Separator) (quoted : Bool) (bytes : List ℕ) → parts s quoted bytes ≡ onto [] (parts s quoted bytes)
onto-nothing s quoted bytes = let (part, rest, e) = some_part s quoted bytes in e ∙ sym (ap (onto []) e)

-- one byte more was seen that ends no part
pub turn : (s : Separator) (quoted next : Bool) (xs : List ℕ) (i : ℕ) (whole : List (List ℕ)) → i < length xs
    → (is_separator s (get_or xs i 0) && not quoted) ≡ false → next ≡ quoted_behind s quoted (get_or xs i 0)
    → whole ≡ onto (take i xs) (parts s quoted (drop i xs)) → whole ≡ onto (take (i + 1) xs) (parts s next (drop (i + 1) xs))
turn s quoted next xs i whole l h n e =
    let b : ℕ = get_or xs i 0 in
    let (part, rest, some) = some_part s (quoted_behind s quoted b) (drop (i + 1) xs) in
    e ∙ ap (λ (t : List ℕ). onto (take i xs) (parts s quoted t)) (drop_more xs i 0 l)
    ∙ ap (onto (take i xs)) (parts-more s quoted b (drop (i + 1) xs) h)
    ∙ ap (λ (t : List (List ℕ)). onto (take i xs) (onto_first b t)) some
    ∙ onto-more (take i xs) b part rest
    ∙ ap (λ (t : List ℕ). onto t (part ∷ rest)) (sym (take_more xs i 0 l))
    ∙ ap (onto (take (i + 1) xs)) (sym some)
    ∙ ap (λ (t : Bool). onto (take (i + 1) xs) (parts s t (drop (i + 1) xs))) (sym n)

-- a byte was seen that ends the first part
pub cut : (s : Separator) (quoted : Bool) (xs : List ℕ) (i : ℕ) (whole : List (List ℕ)) → i < length xs
    → (is_separator s (get_or xs i 0) && not quoted) ≡ true → whole ≡ onto (take i xs) (parts s quoted (drop i xs))
    → whole ≡ take i xs ∷ parts s false (drop (i + 1) xs)
cut s quoted xs i whole l h e =
    let b : ℕ = get_or xs i 0 in
    e ∙ ap (λ (t : List ℕ). onto (take i xs) (parts s quoted t)) (drop_more xs i 0 l)
    ∙ ap (onto (take i xs)) (parts-end s quoted b (drop (i + 1) xs) h)
    ∙ ap (λ (t : List ℕ). t ∷ parts s false (drop (i + 1) xs)) (append-nil (take i xs))

-- no byte ends the first part
pub uncut : (s : Separator) (quoted : Bool) (xs : List ℕ) (i : ℕ) (whole : List (List ℕ)) → length xs ≤ i
    → whole ≡ onto (take i xs) (parts s quoted (drop i xs)) → whole ≡ xs ∷ []
uncut s quoted xs i whole l e =
    e ∙ ap (λ (t : List ℕ). onto (take i xs) (parts s quoted t)) (drop_all i xs l)
    ∙ ap (λ (t : List ℕ). t ∷ []) (append-nil (take i xs) ∙ take_all i xs l)
