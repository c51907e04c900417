-- Strings of JSON (RFC 8259): which bytes are escaped, and how. A byte above 127 stands as it is.
use Rattle.std.specs.Prelude.{◌==◌, ◌++◌, ◌/◌, ◌%◌, ℕ, List, [], ◌∷◌, Option, None, Some, codes, nat_lt, if◌then◌else◌}
use Rattle.std.specs.List.{flat_map}
use Rattle.kc_lines.specs.Hex.{hex_digit}

-- what stands behind the backslash for a byte that has a short escape: itself for a quote and a backslash, and `b`, `t`, `n`, `f` or `r`
abbrev pub short_escape : ℕ → Option ℕ
short_escape b =
    if b == 34 then Some 34
    else if b == 92 then Some 92
    else if b == 8 then Some 98
    else if b == 9 then Some 116
    else if b == 10 then Some 110
    else if b == 12 then Some 102
    else if b == 13 then Some 114
    else None

-- a byte without a short escape: a control character as `\u001f`, and any other as it is
abbrev pub long_escape : ℕ → List ℕ
long_escape b = if nat_lt b 32 then codes "\\u00" ++ hex_digit (b / 16) ∷ hex_digit (b % 16) ∷ [] else b ∷ []

-- a byte by its short escape, if it has one
abbrev pub escaped : Option ℕ → ℕ → List ℕ
escaped (Some letter) b = 92 ∷ letter ∷ []
escaped None b = long_escape b

-- a byte in a string
abbrev pub json_byte : ℕ → List ℕ
json_byte b = escaped (short_escape b) b

-- bytes as a string, in quotes
abbrev pub json_string : List ℕ → List ℕ
json_string bytes = codes "\"" ++ (flat_map json_byte bytes ++ codes "\"")
