-- What a line says, by its fields.
use Rattle.std.specs.Prelude.{◌-◌, ◌*◌, ◌+◌, ◌&&◌, ◌||◌, ◌==◌, ℕ, Bool, true, false, List, [], ◌∷◌, Result, Ok, Err, nat_le, if◌then◌else◌, fold, map, codes}
use Rattle.std.specs.Str.{bytes_eq}
use Rattle.std.specs.List.{list_all}
use Rattle.kc_text.specs.declared.kind.Kind.{Kind}
use Rattle.kc_text.specs.declared.kind.Kind.TheVariants.{NotANumber, MissingField, ExtraField, NumberTooLarge}
use Rattle.kc_text.specs.declared.line.TextLine.{TextLine}
use Rattle.kc_text.specs.declared.line.TextLine.TheVariants.{Nothing, Edge, Batch, Change, Wrong}
use Rattle.kc_text.specs.Lines.{fields, lines, is_not_empty}

-- a byte from `0` to `9`
abbrev pub is_digit : ℕ → Bool
is_digit b = nat_le 48 b && nat_le b 57

-- the value of decimal digits
abbrev pub value : List ℕ → ℕ
value digits = fold (λ n b. 10 * n + (b - 48)) 0 digits

-- the number that a field spells, or what is wrong with it
abbrev pub number : List ℕ → Result ℕ Kind
number field = if list_all is_digit field && is_not_empty field then (if nat_le (value field) 4294967295 then Ok (value field) else Err NumberTooLarge) else
    Err NotANumber

-- the number is the last of its line
abbrev pub last_number : ℕ → Result ℕ Kind → List (List ℕ) → Result (ℕ × ℕ) Kind
last_number a (Err kind) rest = Err kind
last_number a (Ok b) [] = Ok (a, b)
last_number a (Ok b) (extra ∷ rest) = Err ExtraField

-- a number, and another one behind it
abbrev pub first_number : Result ℕ Kind → List (List ℕ) → Result (ℕ × ℕ) Kind
first_number (Err kind) rest = Err kind
first_number (Ok a) [] = Err MissingField
first_number (Ok a) (second ∷ rest) = last_number a (number second) rest

-- two numbers and nothing else, or the first that is wrong from the left
abbrev pub two_numbers : List (List ℕ) → Result (ℕ × ℕ) Kind
two_numbers [] = Err MissingField
two_numbers (first ∷ rest) = first_number (number first) rest

-- a field that begins a comment, with `#` or `%`
abbrev pub is_comment : List ℕ → Bool
is_comment [] = false
is_comment (b ∷ bytes) = b == 35 || b == 37

-- what a line says that begins with `batch`, by the fields after it: there may be none
abbrev pub batch_form : List (List ℕ) → TextLine
batch_form [] = Batch
batch_form (extra ∷ rest) = Wrong ExtraField

-- a change that adds or removes the edge of the two numbers, or what is wrong with them
abbrev pub change_form : Bool → Result (ℕ × ℕ) Kind → TextLine
change_form add (Ok pair) = Change (record { add = add; a = pair.0; b = pair.1 })
change_form add (Err kind) = Wrong kind

-- an edge between the two numbers, or what is wrong with them
abbrev pub edge_form : Result (ℕ × ℕ) Kind → TextLine
edge_form (Ok pair) = Edge pair.0 pair.1
edge_form (Err kind) = Wrong kind

-- the form of a line is told by its first field
abbrev pub line_of : List (List ℕ) → TextLine
line_of [] = Nothing
line_of (first ∷ rest) =
    if is_comment first then Nothing
    else if bytes_eq first (codes "batch") then batch_form rest
    else if bytes_eq first (codes "+") then change_form true (two_numbers rest)
    else if bytes_eq first (codes "-") then change_form false (two_numbers rest)
    else edge_form (two_numbers (first ∷ rest))

-- what a line says
abbrev pub said_by : List ℕ → TextLine
said_by line = line_of (fields line)

-- what each line of a text says
abbrev pub all_said : List ℕ → List TextLine
all_said bytes = map said_by (lines bytes)
