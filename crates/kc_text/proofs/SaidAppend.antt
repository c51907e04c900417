-- What the lines of a text say, where the text is cut behind a line end.
use Rattle.std.proofs.Common.{◌≡◌, ◌<◌, ℕ, true, false, cond, List, [], ◌∷◌, ◌++◌, length, map, refl, sym, ap, ◌∙◌, arith}
use Rattle.std.proofs.Common.{append_assoc, append-nil}
use Rattle.std.proofs.Common.{inl, inr, subst}
use Rattle.std.specs.List.{slice_split, onto_first}
use Rattle.std.specs.Str.Lines.{strip_carriage_return}
use Rattle.std.proofs.lemmas.List.{map-append}
use Rattle.kc_text.specs.Forms.{all_said, said_by}
use Rattle.kc_text.specs.Lines.{EndsLine, is_newline, lines, without_last}
use Rattle.kc_text.proofs.LineCuts.{some_part}

-- a byte in front of parts and of more parts
onto-append : (x : ℕ) (part : List ℕ) (parts more : List (List ℕ)) → onto_first x ((part ∷ parts) ++ more) ≡ onto_first x (part ∷ parts) ++ more
onto-append x part parts more = refl

-- the parts of bytes that are cut at a newline
split-newline : (xs ys : List ℕ) → slice_split is_newline (xs ++ 10 ∷ ys) ≡ slice_split is_newline xs ++ slice_split is_newline ys
split-newline [] ys = refl
split-newline (x ∷ xs) ys =
    let (part, parts, e) = some_part is_newline xs in
    let more : List (List ℕ) = slice_split is_newline ys in
    elim (is_newline x) as (λ b. cond b ([] ∷ slice_split is_newline (xs ++ 10 ∷ ys)) (onto_first x (slice_split is_newline (xs ++ 10 ∷ ys)))
    ≡ cond b ([] ∷ slice_split is_newline xs) (onto_first x (slice_split is_newline xs)) ++ more) [
      | true ↦ ap (λ t. [] ∷ t) (split-newline xs ys)
      | false ↦ ap (onto_first x) (split-newline xs ys ∙ ap (λ t. t ++ more) e) ∙ sym (ap (λ t. onto_first x t ++ more) e)
    ]

-- the last part is one of those behind, where there is one
without-append : (parts : List (List ℕ)) (part : List ℕ) (more : List (List ℕ)) → without_last (parts ++ part ∷ more) ≡ parts ++ without_last (part ∷ more)
without-append [] part more = refl
without-append (p ∷ []) part more = refl
without-append (p ∷ q ∷ parts) part more = ap (λ t. p ∷ t) (without-append (q ∷ parts) part more)

-- the lines of bytes that are cut behind a newline
pub lines-newline : (xs ys : List ℕ) → lines (xs ++ 10 ∷ ys) ≡ map strip_carriage_return (slice_split is_newline xs) ++ lines ys
lines-newline xs ys =
    let (part, parts, e) = some_part is_newline ys in
    ap (λ (t : List (List ℕ)). map strip_carriage_return (without_last t)) (split-newline xs ys ∙ ap (λ t. slice_split is_newline xs ++ t) e)
    ∙ ap (map strip_carriage_return) (without-append (slice_split is_newline xs) part parts)
    ∙ map-append strip_carriage_return (slice_split is_newline xs) (without_last (part ∷ parts))
    ∙ ap (λ (t : List (List ℕ)). map strip_carriage_return (slice_split is_newline xs) ++ map strip_carriage_return (without_last t)) (sym e)

-- the lines of two texts one after the other, where the first ends with a line
pub lines-append : (xs ys : List ℕ) → EndsLine xs → lines (xs ++ ys) ≡ lines xs ++ lines ys
lines-append xs ys (inl none) = ap (λ (t : List ℕ). lines (t ++ ys)) none ∙ sym (ap (λ (t : List ℕ). lines t ++ lines ys) none)
lines-append xs ys (inr (front, is)) =
    let whole : lines (front ++ 10 ∷ []) ≡ map strip_carriage_return (slice_split is_newline front) = lines-newline front []
    ∙ append-nil (map strip_carriage_return (slice_split is_newline front)) in
    ap (λ (t : List ℕ). lines (t ++ ys)) is ∙ ap lines (append_assoc front (10 ∷ []) ys)
    ∙ lines-newline front ys ∙ ap (λ (t : List (List ℕ)). t ++ lines ys) (sym whole)
    ∙ sym (ap (λ (t : List ℕ). lines t ++ lines ys) is)

-- What two texts say one after the other, where the first ends with a line.
pub said-append : (xs ys : List ℕ) → EndsLine xs → all_said (xs ++ ys) ≡ all_said xs ++ all_said ys
said-append xs ys ended = ap (map said_by) (lines-append xs ys ended) ∙ map-append said_by (lines xs) (lines ys)

-- bytes that end with a line, and others behind them that do
pub ends-append : (xs ys : List ℕ) → EndsLine xs → EndsLine ys → EndsLine (xs ++ ys)
ends-append xs ys ended (inl none) = subst EndsLine (sym (ap (λ (t : List ℕ). xs ++ t) none ∙ append-nil xs)) ended
ends-append xs ys ended (inr (front, is)) = inr (xs ++ front, ap (λ (t : List ℕ). xs ++ t) is ∙ sym (append_assoc xs front (10 ∷ [])))

-- bytes with others behind them that end with a line
pub ends-behind : (xs ys : List ℕ) → EndsLine ys → 0 < length ys → EndsLine (xs ++ ys)
ends-behind xs ys (inl none) some = absurd (omega (arith, ap length none))
ends-behind xs ys (inr (front, is)) some = inr (xs ++ front, ap (λ (t : List ℕ). xs ++ t) is ∙ sym (append_assoc xs front (10 ∷ [])))
