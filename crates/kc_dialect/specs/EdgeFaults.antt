-- Where a line is wrong in a list of two ids a line.
use Rattle.std.specs.Prelude.{◌+◌, ℕ, List, Option, Some, None, Result, Ok, Err, option_map}
use Rattle.kc_dialect.specs.Columns.{fields_in, in_column, number_in_column}
use Rattle.kc_dialect.specs.declared.bad_line.BadField.{BadField}
use Rattle.kc_dialect.specs.declared.bad_line.BadKind.{BadKind}
use Rattle.kc_dialect.specs.declared.bad_line.BadKind.TheVariants as wrong
use Rattle.kc_dialect.specs.declared.dialect.Separator.TheVariants.{Blank}
use Rattle.kc_dialect.specs.declared.edge_faults.EdgeFault.{EdgeFault}
use Rattle.kc_text.specs.declared.kind.Kind.{Kind}
use Rattle.kc_text.specs.declared.kind.Kind.TheVariants.{ExtraField, MissingField, NotANumber, NumberTooLarge}

-- for which cause a line is refused that has such a field; what is no name is refused as what is no number
abbrev pub kind_of_bad : BadKind → Kind
kind_of_bad wrong.MissingColumn = MissingField
kind_of_bad wrong.NotANumber = NotANumber
kind_of_bad wrong.NumberTooLarge = NumberTooLarge
kind_of_bad wrong.NotAName = NotANumber

-- a field that is no number, or is not there
abbrev pub wrong_field : BadField → EdgeFault
wrong_field bad = record { column = bad.column; kind = kind_of_bad bad.kind }

-- a field that is there where the line has to end
abbrev pub extra_at : ℕ × List ℕ → EdgeFault
extra_at field = record { column = field.0 + 1; kind = ExtraField }

-- the third field of a line, behind the two that are wanted, if there is one
abbrev pub extra_field : List ℕ → Option EdgeFault
extra_field line = option_map extra_at (in_column 3 (fields_in Blank line))

-- the first of three fields that is wrong: the first two have to be numbers, and there may be no third
abbrev pub first_wrong : Result (List ℕ) BadField → Result (List ℕ) BadField → Option EdgeFault → Option EdgeFault
first_wrong (Err bad) second extra = Some (wrong_field bad)
first_wrong (Ok a) (Err bad) extra = Some (wrong_field bad)
first_wrong (Ok a) (Ok b) extra = extra

-- the first field of a line that is wrong where two numbers are wanted, between blanks, and nothing else
abbrev pub edge_fault : List ℕ → Option EdgeFault
edge_fault line = first_wrong (number_in_column Blank 1 line) (number_in_column Blank 2 line) (extra_field line)
