-- The fields of a line in a dialect, each with its place.
use Rattle.std.specs.Prelude.{◌==◌, ◌&&◌, ◌+◌, ◌-◌, ℕ, Bool, true, false, not, List, [], ◌∷◌, length, map, take, drop, nat_lt, if◌then◌else◌}
use Rattle.std.specs.Prelude.{Option, Some, None, Result, Ok, Err, slice_index, zero, suc}
use Rattle.std.specs.List.{filter, list_all, onto_first, prefix_len, suffix_len}
use Rattle.std.specs.Str.{is_utf8}
use Rattle.kc_text.specs.declared.kind.Kind.{Kind}
use Rattle.kc_text.specs.declared.kind.Kind.TheVariants.{NotANumber, MissingField, ExtraField, NumberTooLarge, LoopInBatch, UpdateOutsideBatch}
use Rattle.kc_text.specs.declared.kind.Kind.TheVariants.{EdgeLineInBatch, TooManyVertices, TooManyEdgeLines, TooManyUpdates, TooManyBatches, TooLong}
use Rattle.kc_text.specs.Forms.{number}
use Rattle.kc_text.specs.Lines.{is_blank, is_not_empty}
use Rattle.kc_dialect.specs.declared.bad_line.BadField.{BadField}
use Rattle.kc_dialect.specs.declared.bad_line.BadKind.{BadKind}
use Rattle.kc_dialect.specs.declared.bad_line.BadKind.TheVariants as wrong
use Rattle.kc_dialect.specs.declared.dialect.Ids.{Ids}
use Rattle.kc_dialect.specs.declared.dialect.Ids.TheVariants.{Numbers, Names}
use Rattle.kc_dialect.specs.declared.dialect.Separator.{Separator}
use Rattle.kc_dialect.specs.declared.dialect.Separator.TheVariants.{Blank, Comma, Semicolon, Tab}

-- a byte that parts fields, outside quotes
abbrev pub is_separator : Separator → ℕ → Bool
is_separator Blank b = is_blank b
is_separator Comma b = b == 44
is_separator Semicolon b = b == 59
is_separator Tab b = b == 9

-- a double quote, between separators that are no blanks
abbrev pub is_quote : Separator → ℕ → Bool
is_quote Blank b = false
is_quote Comma b = b == 34
is_quote Semicolon b = b == 34
is_quote Tab b = b == 34

-- whether the bytes behind one stand in quotes, by whether it does
abbrev pub quoted_behind : Separator → Bool → ℕ → Bool
quoted_behind separator quoted b = if is_quote separator b then not quoted else quoted

-- the parts of a line between separators outside quotes; `quoted` says whether the line begins in quotes
abbrev pub parts : Separator → Bool → List ℕ → List (List ℕ)
parts separator quoted [] = [] ∷ []
parts separator quoted (b ∷ bytes) =
    if is_separator separator b && not quoted then [] ∷ parts separator false bytes
    else onto_first b (parts separator (quoted_behind separator quoted b) bytes)

-- the parts, each with the number of bytes before it: one separator stands between two
abbrev pub placed_parts : ℕ → List (List ℕ) → List (ℕ × List ℕ)
placed_parts before [] = []
placed_parts before (part ∷ rest) = (before, part) ∷ placed_parts (before + length part + 1) rest

-- whether a part is a field: between blanks an empty one is none
abbrev pub is_field : Separator → List ℕ → Bool
is_field Blank part = is_not_empty part
is_field Comma part = true
is_field Semicolon part = true
is_field Tab part = true

-- bytes without the blanks at their end
abbrev pub without_back_blanks : List ℕ → List ℕ
without_back_blanks bytes = take (length bytes - suffix_len is_blank bytes) bytes

-- bytes that begin and end with a double quote, which are two
abbrev pub is_in_quotes : List ℕ → Bool
is_in_quotes bytes = nat_lt 1 (length bytes) && (slice_index bytes 0 == 34 && slice_index bytes (length bytes - 1) == 34)

-- what stands between the quotes of bytes in quotes, and else the bytes
abbrev pub unquoted : List ℕ → List ℕ
unquoted bytes = if is_in_quotes bytes then take (length bytes - 2) (drop 1 bytes) else bytes

-- a part without the blanks around it and the quotes within these, with the number of bytes before its first byte that is no blank
abbrev pub trimmed : ℕ × List ℕ → ℕ × List ℕ
trimmed cell = (cell.0 + prefix_len is_blank cell.1, unquoted (without_back_blanks (drop (prefix_len is_blank cell.1) cell.1)))

-- a part as a field: only between blanks it is one as it stands
abbrev pub field_of : Separator → ℕ × List ℕ → ℕ × List ℕ
field_of Blank cell = cell
field_of Comma cell = trimmed cell
field_of Semicolon cell = trimmed cell
field_of Tab cell = trimmed cell

-- the fields among parts, where so many bytes stand before
abbrev pub fields_from : Separator → ℕ → List (List ℕ) → List (ℕ × List ℕ)
fields_from separator before cells = map (field_of separator) (filter (λ (cell : ℕ × List ℕ). is_field separator cell.1) (placed_parts before cells))

-- the fields of a line, each with the number of bytes before it
abbrev pub fields_in : Separator → List ℕ → List (ℕ × List ℕ)
fields_in separator line = fields_from separator 0 (parts separator false line)

-- the field of a column, from 1, if there are so many
abbrev pub in_column : ℕ → List (ℕ × List ℕ) → Option (ℕ × List ℕ)
in_column column [] = None
in_column zero (field ∷ fields) = None
in_column (suc zero) (field ∷ fields) = Some field
in_column (suc (suc n)) (field ∷ fields) = in_column (suc n) fields

-- the same of a field that spells no number: it is too large, or there is none
abbrev pub bad_kind_of : Kind → BadKind
bad_kind_of NumberTooLarge = wrong.NumberTooLarge
bad_kind_of NotANumber = wrong.NotANumber
bad_kind_of MissingField = wrong.NotANumber
bad_kind_of ExtraField = wrong.NotANumber
bad_kind_of LoopInBatch = wrong.NotANumber
bad_kind_of UpdateOutsideBatch = wrong.NotANumber
bad_kind_of EdgeLineInBatch = wrong.NotANumber
bad_kind_of TooManyVertices = wrong.NotANumber
bad_kind_of TooManyEdgeLines = wrong.NotANumber
bad_kind_of TooManyUpdates = wrong.NotANumber
bad_kind_of TooManyBatches = wrong.NotANumber
bad_kind_of TooLong = wrong.NotANumber

-- a field, by what it spells
abbrev pub checked : ℕ × List ℕ → Result ℕ Kind → Result (List ℕ) BadField
checked field (Ok value) = Ok field.1
checked field (Err kind) = Err (record { column = field.0 + 1; kind = bad_kind_of kind })

-- the bytes of a field that spells a number, or what is wrong in its column, which may be behind the end of the line
abbrev pub checked_in : ℕ → Option (ℕ × List ℕ) → Result (List ℕ) BadField
checked_in end None = Err (record { column = end + 1; kind = wrong.MissingColumn })
checked_in end (Some field) = checked field (number field.1)

-- the bytes of the number in a column of a line, or what is wrong there
abbrev pub number_in_column : Separator → ℕ → List ℕ → Result (List ℕ) BadField
number_in_column separator column line = checked_in (length line) (in_column column (fields_in separator line))

-- a byte of a name: no blank, and no control character
abbrev pub is_name_byte : ℕ → Bool
is_name_byte b = nat_lt 32 b && not (b == 127)

-- whether a field is a name: text of UTF-8 without blanks and control characters
abbrev pub is_name : List ℕ → Bool
is_name field = is_not_empty field && (list_all is_name_byte field && is_utf8 field)

-- the bytes of a field that is a name, or what is wrong in its column, which may be behind the end of the line
abbrev pub named_in : ℕ → Option (ℕ × List ℕ) → Result (List ℕ) BadField
named_in end None = Err (record { column = end + 1; kind = wrong.MissingColumn })
named_in end (Some field) = if is_name field.1 then Ok field.1 else Err (record { column = field.0 + 1; kind = wrong.NotAName })

-- the bytes of the name in a column of a line, or what is wrong there
abbrev pub name_in_column : Separator → ℕ → List ℕ → Result (List ℕ) BadField
name_in_column separator column line = named_in (length line) (in_column column (fields_in separator line))

-- the bytes of the id in a column of a line, or what is wrong there
abbrev pub id_in_column : Ids → Separator → ℕ → List ℕ → Result (List ℕ) BadField
id_in_column Numbers separator column line = number_in_column separator column line
id_in_column Names separator column line = name_in_column separator column line
