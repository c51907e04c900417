-- How a line is shown, with a caret under a column of it.
use Rattle.std.specs.Prelude.{◌-◌, ◌==◌, ◌/◌, ◌%◌, ◌&&◌, ◌++◌, ℕ, Bool, List, [], ◌∷◌, Option, Some, None, codes, drop, length, nat_le, nat_lt, take}
use Rattle.std.specs.Prelude.{if◌then◌else◌}
use Rattle.std.specs.List.{flat_map}
use Rattle.kc_lines.specs.Hex.{hex_digit}
use Rattle.kc_head.specs.Places.{line_in}
use Rattle.kc_head.specs.declared.shown.TheConstants.{MOST_BEFORE, MOST_SHOWN}

-- a byte that is shown as it is: a letter, a digit or the like, or a space
abbrev pub is_plain : ℕ → Bool
is_plain b = nat_le 32 b && nat_le b 126

-- a byte that can not be shown: a tab as `\t`, and any other as `\x1f`
abbrev pub escaped : ℕ → List ℕ
escaped b = if b == 9 then codes "\\t" else codes "\\x" ++ hex_digit (b / 16) ∷ hex_digit (b % 16) ∷ []

-- a byte as it is shown
abbrev pub shown_byte : ℕ → List ℕ
shown_byte b = if is_plain b then b ∷ [] else escaped b

-- spaces, as many as a byte takes that is shown
abbrev pub spaces_for : ℕ → List ℕ
spaces_for b = if is_plain b then codes " " else if b == 9 then codes "  " else codes "    "

-- what the shown lines begin with
abbrev pub margin : List ℕ
margin = codes "    "

-- some bytes, and below them a caret under the byte behind so many
abbrev pub with_caret : ℕ → List ℕ → List ℕ
with_caret before text = margin ++ flat_map shown_byte text ++ codes "\n" ++ margin ++ flat_map spaces_for (take before text) ++ codes "^\n"

-- how many bytes of a line are left out before a column: all but the last of those before it
abbrev pub cut_before : ℕ → ℕ
cut_before column = column - 1 - MOST_BEFORE

-- the part of a line round a column, with a caret under the column; nothing where the line has fewer columns
abbrev pub shown_line : List ℕ → ℕ → List ℕ
shown_line line column =
    if nat_lt (length line) (column - 1) then []
    else with_caret (column - 1 - cut_before column) (take MOST_SHOWN (drop (cut_before column) line))

-- a line, if there is one, with a caret under a column of it, if one is meant
abbrev pub shown_at : Option (List ℕ) → Option ℕ → List ℕ
shown_at None column = []
shown_at (Some line) None = []
shown_at (Some line) (Some column) = shown_line line column

-- the line of a number in a text with this head, with a caret under a column of it, if one is meant
abbrev pub shown_place : List ℕ → ℕ → Option ℕ → List ℕ
shown_place head number column = shown_at (line_in head number) column
