-- The plain text of a text in a dialect, and its bad lines.
use Rattle.std.specs.Prelude.{◌==◌, ◌&&◌, ◌+◌, ℕ, Bool, true, List, [], ◌∷◌, ◌++◌, drop, nat_lt, if◌then◌else◌}
use Rattle.std.specs.Prelude.{Option, Some, None, Result, Ok, Err, slice_index}
use Rattle.kc_text.specs.Forms.{is_comment}
use Rattle.kc_text.specs.Lines.{fields, lines}
use Rattle.kc_dialect.specs.declared.bad_line.BadField.{BadField}
use Rattle.kc_dialect.specs.declared.bad_line.BadLine.{BadLine}
use Rattle.kc_dialect.specs.declared.dialect.Dialect.{Dialect}
use Rattle.kc_dialect.specs.Columns.{id_in_column}

-- a line of these fields, between blanks, says nothing: it is blank or a comment
abbrev pub says_nothing : List (List ℕ) → Bool
says_nothing [] = true
says_nothing (first ∷ rest) = is_comment first

-- the bytes without the byte order mark of UTF-8 at their front
abbrev pub without_mark : List ℕ → List ℕ
without_mark bytes = if slice_index bytes 0 == 239 && (slice_index bytes 1 == 187 && slice_index bytes 2 == 191) then drop 3 bytes else bytes

-- both of two ids, or the first that is wrong
abbrev pub both : Result (List ℕ) BadField → Result (List ℕ) BadField → Result (Option (List ℕ × List ℕ)) BadField
both (Err bad) second = Err bad
both (Ok a) (Err bad) = Err bad
both (Ok a) (Ok b) = Ok (Some (a, b))

-- the two ids of a line as they stand, none where it says nothing, or the first column that is wrong
abbrev pub pair_in : Dialect → List ℕ → Result (Option (List ℕ × List ℕ)) BadField
pair_in dialect line =
    if says_nothing (fields line) then Ok None
    else both (id_in_column dialect.ids dialect.separator dialect.columns.0 line) (id_in_column dialect.ids dialect.separator dialect.columns.1 line)

-- what a line says behind so many others: the lines at the top say nothing, and a mark in front of the first is no part of it
abbrev pub said_after : Dialect → ℕ → List ℕ → Result (Option (List ℕ × List ℕ)) BadField
said_after dialect before line =
    if nat_lt before dialect.skip then Ok None
    else pair_in dialect (if before == 0 then without_mark line else line)

-- the plain line of a line, with its end: the two ids with a space between them, or an empty line
abbrev pub plain_line : Result (Option (List ℕ × List ℕ)) BadField → List ℕ
plain_line (Ok None) = 10 ∷ []
plain_line (Ok (Some pair)) = pair.0 ++ 32 ∷ (pair.1 ++ 10 ∷ [])
plain_line (Err bad) = 10 ∷ []

-- the plain lines of lines behind so many others
abbrev pub plain_lines : Dialect → ℕ → List (List ℕ) → List ℕ
plain_lines dialect before [] = []
plain_lines dialect before (line ∷ rest) = plain_line (said_after dialect before line) ++ plain_lines dialect (before + 1) rest

-- the bad line of such a number, if the line is bad
abbrev pub bad_line : ℕ → Result (Option (List ℕ × List ℕ)) BadField → List BadLine
bad_line number (Ok pair) = []
bad_line number (Err bad) = record { line = number; column = bad.column; kind = bad.kind } ∷ []

-- the bad lines among lines behind so many others
abbrev pub bad_lines_after : Dialect → ℕ → List (List ℕ) → List BadLine
bad_lines_after dialect before [] = []
bad_lines_after dialect before (line ∷ rest) = bad_line (before + 1) (said_after dialect before line) ++ bad_lines_after dialect (before + 1) rest

-- the text of plain lines that the bytes of a text in a dialect stand for: one line for each line
abbrev pub plain_text : Dialect → List ℕ → List ℕ
plain_text dialect bytes = plain_lines dialect 0 (lines bytes)

-- the bad lines of a text in a dialect, in their order
abbrev pub bad_lines : Dialect → List ℕ → List BadLine
bad_lines dialect bytes = bad_lines_after dialect 0 (lines bytes)
