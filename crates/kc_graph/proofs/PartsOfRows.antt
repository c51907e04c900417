-- Rows that are taken part by part.
use Rattle.std.proofs.Common.{◌≡◌, ◌≤◌, ◌<◌, ◌+◌, ◌-◌, ℕ, suc, List, [], ◌∷◌, ◌++◌, length, drop, take, ap, sym, ◌∙◌, arith, take-suc, take-add}
use Rattle.std.specs.List.{between}
use Rattle.std.proofs.lemmas.List.{get_or-drop, length-drop}
use Rattle.kc_graph.specs.Rows.{row}

-- a part with one row more
pub part-more : (rows : List (List ℕ)) (i j : ℕ) → i ≤ j → j < length rows → between i (j + 1) rows ≡ between i j rows ++ row rows j ∷ []
part-more rows i j o l =
    let one : j + 1 - i ≡ suc (j - i) = omega arith in
    let here : i + (j - i) ≡ j = omega arith in
    ap (λ (n : ℕ). take n (drop i rows)) one ∙ take-suc (drop i rows) (j - i) [] (omega (arith, length-drop i rows))
    ∙ ap (λ (r : List ℕ). take (j - i) (drop i rows) ++ r ∷ []) (get_or-drop i rows (j - i) [] ∙ ap (row rows) here)

-- the rows before a part, and the part, are those before its end
pub part-behind : (rows : List (List ℕ)) (i j : ℕ) → i ≤ j → take i rows ++ between i j rows ≡ take j rows
part-behind rows i j o =
    let all : i + (j - i) ≡ j = omega arith in
    sym (take-add i (j - i) rows) ∙ ap (λ (n : ℕ). take n rows) all
