-- The first pair of numbers that a text in a dialect tells.
use Rattle.std.specs.Prelude.{◌+◌, ℕ, List, [], ◌∷◌, Option, Some, None, Result, Ok, Err}
use Rattle.std.specs.Option.{option_or}
use Rattle.kc_dialect.specs.Dialects.{said_after}
use Rattle.kc_dialect.specs.declared.bad_line.BadField.{BadField}
use Rattle.kc_dialect.specs.declared.dialect.Dialect.{Dialect}
use Rattle.kc_text.specs.Forms.{number}
use Rattle.kc_text.specs.Lines.{lines}
use Rattle.kc_text.specs.declared.kind.Kind.{Kind}

-- two numbers, where there are both
abbrev pub both_numbers : Result ℕ Kind → Result ℕ Kind → Option (ℕ × ℕ)
both_numbers (Ok a) (Ok b) = Some (a, b)
both_numbers (Ok a) (Err kind) = None
both_numbers (Err kind) second = None

-- the numbers of the two ids that a line says, where it says two
abbrev pub pair_told : Result (Option (List ℕ × List ℕ)) BadField → Option (ℕ × ℕ)
pair_told (Ok None) = None
pair_told (Ok (Some pair)) = both_numbers (number pair.0) (number pair.1)
pair_told (Err bad) = None

-- the first pair of numbers that lines tell behind so many others
abbrev pub first_pair_after : Dialect → ℕ → List (List ℕ) → Option (ℕ × ℕ)
first_pair_after dialect before [] = None
first_pair_after dialect before (line ∷ rest) =
    option_or (pair_told (said_after dialect before line)) (first_pair_after dialect (before + 1) rest)

-- the first pair of numbers that a text tells in a dialect, in the order of its columns
abbrev pub first_pair : Dialect → List ℕ → Option (ℕ × ℕ)
first_pair dialect bytes = first_pair_after dialect 0 (lines bytes)
