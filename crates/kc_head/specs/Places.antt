-- Where a line of a text is wrong, as far as its head tells.
use Rattle.std.specs.Prelude.{◌==◌, ℕ, zero, suc, List, [], ◌∷◌, Option, Some, None, if◌then◌else◌, option_and_then}
use Rattle.kc_dialect.specs.Dialects.{without_mark}
use Rattle.kc_dialect.specs.EdgeFaults.{edge_fault}
use Rattle.kc_dialect.specs.declared.edge_faults.EdgeFault.{EdgeFault}
use Rattle.kc_text.specs.Kinds.{number_of}
use Rattle.kc_text.specs.Lines.{lines}
use Rattle.kc_text.specs.declared.kind.Kind.{Kind}
use Rattle.kc_text.specs.declared.refusal.Refusal.{Refusal}

-- the line of a number, from 1, if there are so many
abbrev pub line_at : ℕ → List (List ℕ) → Option (List ℕ)
line_at number [] = None
line_at zero (line ∷ rest) = None
line_at (suc zero) (line ∷ rest) = Some line
line_at (suc (suc n)) (line ∷ rest) = line_at (suc n) rest

-- the line of a number in a text with this head, as far as it stands in there; a byte order mark before the first is no part of it
abbrev pub line_in : List ℕ → ℕ → Option (List ℕ)
line_in head number = line_at number (lines (without_mark head))

-- the column of a fault, where it is of this kind
abbrev pub column_of : Kind → Option EdgeFault → Option ℕ
column_of kind None = None
column_of kind (Some fault) = if number_of fault.kind == number_of kind then Some fault.column else None

-- the column of the field for which a line is refused in a list of two ids a line, where the line stands in the head of the text
abbrev pub wrong_column : List ℕ → Refusal → Option ℕ
wrong_column head refusal = column_of refusal.kind (option_and_then edge_fault (line_in head refusal.line))
