-- Names, each once, in the order of their first coming, and what a text is with their numbers in their place.
use Rattle.std.specs.Prelude.{◌++◌, ℕ, List, [], ◌∷◌, Option, Some, None, decimal, fold, map, slice_index_or, if◌then◌else◌}
use Rattle.std.specs.List.{flat_map, list_any, position_or_len}
use Rattle.std.specs.Str.{bytes_eq}
use Rattle.kc_dialect.specs.declared.dialect.Ids.{Ids}
use Rattle.kc_dialect.specs.declared.dialect.Ids.TheVariants.{Numbers, Names}
use Rattle.kc_text.specs.Lines.{fields, lines}

-- the number of a name: its place among names, or how many they are where it is none of them
abbrev pub number_of : List (List ℕ) → List ℕ → ℕ
number_of names name = position_or_len (bytes_eq name) names

-- the name of a number, or no bytes where there are fewer names
abbrev pub name_at : List (List ℕ) → ℕ → List ℕ
name_at names number = slice_index_or names number []

-- names with one more, which stands behind them where it is none of them
abbrev pub names_with : List (List ℕ) → List ℕ → List (List ℕ)
names_with names name = if list_any (bytes_eq name) names then names else names ++ name ∷ []

-- names with the two of a pair, if there is one
abbrev pub names_with_pair : List (List ℕ) → Option (List ℕ × List ℕ) → List (List ℕ)
names_with_pair names None = names
names_with_pair names (Some pair) = names_with (names_with names pair.0) pair.1

-- the first two fields of a line, if it has two
abbrev pub first_two : List (List ℕ) → Option (List ℕ × List ℕ)
first_two [] = None
first_two (first ∷ []) = None
first_two (first ∷ second ∷ rest) = Some (first, second)

-- the two names of each line of a text
abbrev pub pairs_in : List ℕ → List (Option (List ℕ × List ℕ))
pairs_in text = map (λ line. first_two (fields line)) (lines text)

-- the names of a text, each once, in the order of their first coming
abbrev pub names_in : List ℕ → List (List ℕ)
names_in text = fold names_with_pair [] (pairs_in text)

-- the line of the numbers of two names, or an empty one
abbrev pub numbered_line : List (List ℕ) → Option (List ℕ × List ℕ) → List ℕ
numbered_line names None = 10 ∷ []
numbered_line names (Some pair) = decimal (number_of names pair.0) ++ 32 ∷ (decimal (number_of names pair.1) ++ 10 ∷ [])

-- the text in which the number of each name of a text stands in its place
abbrev pub numbered_text : List ℕ → List ℕ
numbered_text text = flat_map (numbered_line (names_in text)) (pairs_in text)

-- the text of numbers that a plain text of ids stands for
abbrev pub as_numbers : Ids → List ℕ → List ℕ
as_numbers Numbers text = text
as_numbers Names text = numbered_text text

-- the names of a plain text, where its ids are names
abbrev pub names_of : Ids → List ℕ → Option (List (List ℕ))
names_of Numbers text = None
names_of Names text = Some (names_in text)
