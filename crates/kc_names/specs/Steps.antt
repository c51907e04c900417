-- The numbers of names as they come.
use Rattle.std.specs.Prelude.{◌++◌, ℕ, List, [], ◌∷◌, Option, fold}
use Rattle.kc_names.specs.Names.{numbered_line, names_with_pair}

-- the names behind these pairs, where there were names before
abbrev pub names_behind : List (List ℕ) → List (Option (List ℕ × List ℕ)) → List (List ℕ)
names_behind names pairs = fold names_with_pair names pairs

-- the lines of numbers of pairs, each by the names that there are with it
abbrev pub lines_behind : List (List ℕ) → List (Option (List ℕ × List ℕ)) → List ℕ
lines_behind names [] = []
lines_behind names (pair ∷ rest) = numbered_line (names_with_pair names pair) pair ++ lines_behind (names_with_pair names pair) rest
