-- What a text in a dialect means: what its text of numbers means, if no bad line ends the reading.
use Rattle.std.specs.Prelude.{◌≡◌, ℕ, List, [], ◌∷◌, Option, Some, None, length, nat_lt, option_map, if◌then◌else◌}
use Rattle.kc_dialect.specs.Dialects.{bad_lines, plain_text}
use Rattle.kc_dialect.specs.EdgeFaults.{kind_of_bad}
use Rattle.kc_dialect.specs.declared.bad_line.BadLine.{BadLine}
use Rattle.kc_dialect.specs.declared.dialect.BadLines.{BadLines}
use Rattle.kc_dialect.specs.declared.dialect.BadLines.TheVariants.{Skip, Stop}
use Rattle.kc_dialect.specs.declared.dialect.Dialect.{Dialect}
use Rattle.kc_names.specs.Names.{names_of, as_numbers}
use Rattle.kc_text.specs.Meaning.{Meaning, Refuses, meaning}
use Rattle.kc_text.specs.declared.kind.Kind.TheVariants.{TooLong}
use Rattle.kc_text.specs.declared.limits.TheConstants.Limits.{GRAPH}
use Rattle.kc_dialect_read.specs.declared.fault.PlacedRefusal.{PlacedRefusal}

-- the first of bad lines, where these end the reading
abbrev pub first_stopping : BadLines → List BadLine → Option BadLine
first_stopping Stop [] = None
first_stopping Stop (bad ∷ more) = Some bad
first_stopping Skip bad = None

-- the bad line that ends the reading of a text in a dialect, if one does
abbrev pub stopping_line : Dialect → List ℕ → Option BadLine
stopping_line dialect bytes = first_stopping dialect.bad_lines (bad_lines dialect bytes)

-- a meaning, unless a bad line ends the reading
abbrev pub unless_stopped : Option BadLine → Meaning → Meaning
unless_stopped None plain = plain
unless_stopped (Some bad) plain = Refuses bad.line (kind_of_bad bad.kind)

-- the text of numbers for which a text in a dialect stands: its plain text, where names have their numbers in their place
abbrev pub numbers_in : Dialect → List ℕ → List ℕ
numbers_in dialect bytes = as_numbers dialect.ids (plain_text dialect bytes)

-- the names of a text in a dialect of names, each once, in the order of their first coming
abbrev pub names_told : Dialect → List ℕ → Option (List (List ℕ))
names_told dialect bytes = names_of dialect.ids (plain_text dialect bytes)

-- What the text of a graph means in a dialect: it may be too long, or a bad line ends the reading; else it is what its text of numbers means.
unfoldable pub dialect_meaning : Dialect → List ℕ → Meaning
dialect_meaning dialect bytes =
    if nat_lt GRAPH.bytes (length bytes) then Refuses 0 TooLong
    else unless_stopped (stopping_line dialect bytes) (meaning GRAPH (numbers_in dialect bytes))

-- the column of the field that is wrong in the bad line which ends the reading, if one does
unfoldable pub bad_column : Dialect → List ℕ → Option ℕ
bad_column dialect bytes = if nat_lt GRAPH.bytes (length bytes) then None else option_map (λ bad. bad.column) (stopping_line dialect bytes)

-- the text is refused in a dialect, with this line, column and cause
abbrev pub IsRefusedAt : Dialect → List ℕ → PlacedRefusal → Type 0
IsRefusedAt dialect bytes placed =
    (dialect_meaning dialect bytes ≡ Refuses placed.refusal.line placed.refusal.kind) × (placed.column ≡ bad_column dialect bytes)
