-- Spaces in place of separators, one byte after another.
use Rattle.std.proofs.Common.{◌≡◌, ◌<◌, ◌+◌, ℕ, List, [], ◌∷◌, ◌++◌, length, map, take, drop, set, get_or, sym, ap, ◌∙◌, arith}
use Rattle.std.proofs.Common.{append_assoc}
use Rattle.std.proofs.Common.{length-take}
use Rattle.std.proofs.lemmas.List.{drop_more, get_or_at, length-map, map_more, set_at}
use Rattle.kc_dialect.specs.declared.dialect.Separator.{Separator}
use Rattle.kc_dialect.specs.PlainRuns.{spaced}

-- the bytes before a place are spaced, and the others are as they were
abbrev pub spaced_before : Separator → List ℕ → ℕ → List ℕ
spaced_before s xs i = map (spaced s) (take i xs) ++ drop i xs

-- the byte at the place is the one that was there
at-place : (s : Separator) (xs now : List ℕ) (i : ℕ) → i < length xs → now ≡ spaced_before s xs i → get_or now i 0 ≡ get_or xs i 0
at-place s xs now i l e =
    let front : List ℕ = map (spaced s) (take i xs) in
    ap (λ (t : List ℕ). get_or t i 0) (e ∙ ap (λ (t : List ℕ). front ++ t) (drop_more xs i 0 l))
    ∙ get_or_at front (get_or xs i 0) (drop (i + 1) xs) 0 i (omega (arith, length-map (take i xs) (spaced s), length-take i xs))

-- one byte more is spaced
spaced-more : (s : Separator) (xs now : List ℕ) (i : ℕ) → i < length xs → now ≡ spaced_before s xs i
    → set now i (spaced s (get_or xs i 0)) ≡ spaced_before s xs (i + 1)
spaced-more s xs now i l e =
    let front : List ℕ = map (spaced s) (take i xs) in
    let x : ℕ = get_or xs i 0 in
    let more : List ℕ = drop (i + 1) xs in
    ap (λ (t : List ℕ). set t i (spaced s x)) (e ∙ ap (λ (t : List ℕ). front ++ t) (drop_more xs i 0 l))
    ∙ set_at front x more (spaced s x) i (omega (arith, length-map (take i xs) (spaced s), length-take i xs))
    ∙ sym (append_assoc front (spaced s x ∷ []) more) ∙ ap (λ (t : List ℕ). t ++ more) (sym (map_more (spaced s) xs i 0 l))

-- the byte at the place is spaced
pub spaced-next : (s : Separator) (xs now : List ℕ) (i b : ℕ) → i < length xs → now ≡ spaced_before s xs i → b ≡ spaced s (get_or now i 0)
    → set now i b ≡ spaced_before s xs (i + 1)
spaced-next s xs now i b l e is = ap (set now i) (is ∙ ap (spaced s) (at-place s xs now i l e)) ∙ spaced-more s xs now i l e
