-- The numbers of names as they come are those among all names in the end.
use Rattle.std.proofs.Common.{◌≡◌, ◌+◌, ◌||◌, ℕ, Bool, true, false, not, cond, List, [], ◌∷◌, ◌++◌, map, refl, sym, ap, ◌∙◌, inl, inr}
use Rattle.std.proofs.Common.{Option, None, Some, append_assoc, append-nil, decimal}
use Rattle.std.specs.List.{flat_map, fold, list_any, position_or_len}
use Rattle.std.specs.Str.{bytes_eq}
use Rattle.std.proofs.lemmas.Bool.{cases_Bool, true≢false}
use Rattle.std.proofs.lemmas.List.{map-append}
use Rattle.std.proofs.lemmas.List.Folds.{list_any-append}
use Rattle.std.proofs.lemmas.List.Sums.{fold-append}
use Rattle.std.specs.Cmp.Lexicographic.{nat_list_eq_equiv}
use Rattle.kc_text.proofs.SaidAppend.{lines-append}
use Rattle.kc_text.specs.Lines.{EndsLine, fields, lines}
use Rattle.kc_names.specs.Names.{first_two, names_in, number_of, numbered_line, numbered_text, pairs_in, names_with, names_with_pair}
use Rattle.kc_names.specs.Steps.{lines_behind, names_behind}

-- a name is among names
abbrev pub IsAmong : List (List ℕ) → List ℕ → Type 0
IsAmong names name = list_any (bytes_eq name) names ≡ true

-- names go on with others
abbrev pub GoesOn : List (List ℕ) → List (List ℕ) → Type 0
GoesOn names more = (others : List (List ℕ)) × (more ≡ names ++ others)

-- a place that is found stays the place where more stands behind
found-kept : (p : List ℕ → Bool) (xs ys : List (List ℕ)) → list_any p xs ≡ true → position_or_len p (xs ++ ys) ≡ position_or_len p xs
found-kept p [] ys h = absurd (true≢false (sym h))
found-kept p (x ∷ xs) ys h = elim (cases_Bool (p x)) [
  | inl e ↦ ap (λ t. cond (not t) (1 + position_or_len p (xs ++ ys)) 0) e ∙ sym (ap (λ t. cond (not t) (1 + position_or_len p xs) 0) e)
  | inr e ↦
      let rest : list_any p xs ≡ true = sym (ap (λ t. t || list_any p xs) e) ∙ h in
      ap (λ t. cond (not t) (1 + position_or_len p (xs ++ ys)) 0) e ∙ ap (λ k. 1 + k) (found-kept p xs ys rest)
      ∙ sym (ap (λ t. cond (not t) (1 + position_or_len p xs) 0) e)
]

-- the place of one that is not found is the end, where it stands when it goes behind
pushed-place : (p : List ℕ → Bool) (xs : List (List ℕ)) (x : List ℕ) → p x ≡ true → position_or_len p (xs ++ x ∷ []) ≡ position_or_len p xs
pushed-place p [] x h = ap (λ t. cond (not t) (1 + 0) 0) h
pushed-place p (y ∷ ys) x h = elim (cases_Bool (p y)) [
  | inl e ↦ ap (λ t. cond (not t) (1 + position_or_len p (ys ++ x ∷ [])) 0) e ∙ sym (ap (λ t. cond (not t) (1 + position_or_len p ys) 0) e)
  | inr e ↦
      ap (λ t. cond (not t) (1 + position_or_len p (ys ++ x ∷ [])) 0) e ∙ ap (λ k. 1 + k) (pushed-place p ys x h)
      ∙ sym (ap (λ t. cond (not t) (1 + position_or_len p ys) 0) e)
]

-- a name is itself
same-name : (name : List ℕ) → bytes_eq name name ≡ true
same-name name = nat_list_eq_equiv.refl name

-- a name that was put among names is one of them
pub put-among : (names : List (List ℕ)) (name : List ℕ) → IsAmong (names_with names name) name
put-among names name = elim (cases_Bool (list_any (bytes_eq name) names)) [
  | inl e ↦ ap (λ t. list_any (bytes_eq name) (cond t names (names ++ name ∷ []))) e ∙ e
  | inr e ↦
      ap (λ t. list_any (bytes_eq name) (cond t names (names ++ name ∷ []))) e ∙ list_any-append (bytes_eq name) names (name ∷ [])
      ∙ ap (λ t. t || (bytes_eq name name || false)) e ∙ ap (λ t. t || false) (same-name name)
]

-- names with one more go on
name-on : (names : List (List ℕ)) (name : List ℕ) → GoesOn names (names_with names name)
name-on names name = elim (cases_Bool (list_any (bytes_eq name) names)) [
  | inl e ↦ ([], ap (λ t. cond t names (names ++ name ∷ [])) e ∙ sym (append-nil names))
  | inr e ↦ (name ∷ [], ap (λ t. cond t names (names ++ name ∷ [])) e)
]

-- names that go on twice go on
on-on : (xs ys zs : List (List ℕ)) → GoesOn xs ys → GoesOn ys zs → GoesOn xs zs
on-on xs ys zs (one, p) (two, q) = (one ++ two, q ∙ ap (λ (t : List (List ℕ)). t ++ two) p ∙ append_assoc xs one two)

-- names with a pair go on
pair-on : (names : List (List ℕ)) (pair : Option (List ℕ × List ℕ)) → GoesOn names (names_with_pair names pair)
pair-on names None = ([], sym (append-nil names))
pair-on names (Some pair) =
    on-on names (names_with names pair.0) (names_with (names_with names pair.0) pair.1) (name-on names pair.0) (name-on (names_with names pair.0) pair.1)

-- and with pairs
pairs-on : (names : List (List ℕ)) (pairs : List (Option (List ℕ × List ℕ))) → GoesOn names (names_behind names pairs)
pairs-on names [] = ([], sym (append-nil names))
pairs-on names (pair ∷ rest) =
    on-on names (names_with_pair names pair) (names_behind (names_with_pair names pair) rest) (pair-on names pair) (pairs-on (names_with_pair names pair) rest)

-- where names go on, those that were among them are
among-on : (names more : List (List ℕ)) (name : List ℕ) → GoesOn names more → IsAmong names name → IsAmong more name
among-on names more name (others, e) h =
    ap (list_any (bytes_eq name)) e ∙ list_any-append (bytes_eq name) names others ∙ ap (λ t. t || list_any (bytes_eq name) others) h

-- and they keep their numbers
number-on : (names more : List (List ℕ)) (name : List ℕ) → GoesOn names more → IsAmong names name → number_of more name ≡ number_of names name
number-on names more name (others, e) h = ap (position_or_len (bytes_eq name)) e ∙ found-kept (bytes_eq name) names others h

-- the number of a name is the one that it has once it is among the names
pub number-put : (names : List (List ℕ)) (name : List ℕ) → number_of (names_with names name) name ≡ number_of names name
number-put names name = elim (cases_Bool (list_any (bytes_eq name) names)) [
  | inl e ↦ ap (λ t. position_or_len (bytes_eq name) (cond t names (names ++ name ∷ []))) e
  | inr e ↦
      ap (λ t. position_or_len (bytes_eq name) (cond t names (names ++ name ∷ []))) e ∙ pushed-place (bytes_eq name) names name (same-name name)
]

-- the first of two names keeps its number when the second is put behind
pub first-number : (names : List (List ℕ)) (first second : List ℕ)
    → number_of (names_with (names_with names first) second) first ≡ number_of names first
first-number names first second =
    number-on (names_with names first) (names_with (names_with names first) second) first (name-on (names_with names first) second) (put-among names first)
    ∙ number-put names first

-- both names of a pair are among the names with it
first-among : (names : List (List ℕ)) (pair : List ℕ × List ℕ) → IsAmong (names_with_pair names (Some pair)) pair.0
first-among names pair =
    among-on (names_with names pair.0) (names_with (names_with names pair.0) pair.1) pair.0 (name-on (names_with names pair.0) pair.1) (put-among names pair.0)

-- a line of numbers stays where names go on
line-on : (names more : List (List ℕ)) (pair : Option (List ℕ × List ℕ)) → GoesOn (names_with_pair names pair) more
    → numbered_line more pair ≡ numbered_line (names_with_pair names pair) pair
line-on names more None on = refl
line-on names more (Some pair) on =
    let now : List (List ℕ) = names_with_pair names (Some pair) in
    let one : number_of more pair.0 ≡ number_of now pair.0 = number-on now more pair.0 on (first-among names pair) in
    let two : number_of more pair.1 ≡ number_of now pair.1 = number-on now more pair.1 on (put-among (names_with names pair.0) pair.1) in
    ap (λ k. decimal k ++ 32 ∷ (decimal (number_of more pair.1) ++ 10 ∷ [])) one
    ∙ ap (λ k. decimal (number_of now pair.0) ++ 32 ∷ (decimal k ++ 10 ∷ [])) two

-- lines of numbers as they come are those by all names in the end
pub lines-are : (names : List (List ℕ)) (pairs : List (Option (List ℕ × List ℕ)))
    → lines_behind names pairs ≡ flat_map (numbered_line (names_behind names pairs)) pairs
lines-are names [] = refl
lines-are names (pair ∷ rest) =
    let now : List (List ℕ) = names_with_pair names pair in
    let all : List (List ℕ) = names_behind now rest in
    ap (λ (t : List ℕ). t ++ lines_behind now rest) (sym (line-on names all pair (pairs-on now rest)))
    ∙ ap (λ (t : List ℕ). numbered_line all pair ++ t) (lines-are now rest)

-- lines of numbers of pairs one after the other
pub lines-then : (names : List (List ℕ)) (xs ys : List (Option (List ℕ × List ℕ)))
    → lines_behind names (xs ++ ys) ≡ lines_behind names xs ++ lines_behind (names_behind names xs) ys
lines-then names [] ys = refl
lines-then names (pair ∷ xs) ys =
    let now : List (List ℕ) = names_with_pair names pair in
    ap (λ (t : List ℕ). numbered_line now pair ++ t) (lines-then now xs ys)
    ∙ sym (append_assoc (numbered_line now pair) (lines_behind now xs) (lines_behind (names_behind now xs) ys))

-- the pairs of two texts one after the other, where the first ends with a line
pairs-append : (xs ys : List ℕ) → EndsLine xs → pairs_in (xs ++ ys) ≡ pairs_in xs ++ pairs_in ys
pairs-append xs ys ended =
    ap (map (λ line. first_two (fields line))) (lines-append xs ys ended) ∙ map-append (λ line. first_two (fields line)) (lines xs) (lines ys)

-- the names of two texts one after the other
pub names-append : (xs ys : List ℕ) → EndsLine xs → names_in (xs ++ ys) ≡ names_behind (names_in xs) (pairs_in ys)
names-append xs ys ended = ap (fold names_with_pair []) (pairs-append xs ys ended) ∙ fold-append names_with_pair [] (pairs_in xs) (pairs_in ys)

-- what two texts stand for, one after the other
pub text-append : (xs ys : List ℕ) → EndsLine xs → numbered_text (xs ++ ys) ≡ numbered_text xs ++ lines_behind (names_in xs) (pairs_in ys)
text-append xs ys ended =
    sym (lines-are [] (pairs_in (xs ++ ys))) ∙ ap (lines_behind []) (pairs-append xs ys ended) ∙ lines-then [] (pairs_in xs) (pairs_in ys)
    ∙ ap (λ (t : List ℕ). t ++ lines_behind (names_in xs) (pairs_in ys)) (lines-are [] (pairs_in xs))
