-- What a line of a stream says, by its fields: it tells what a line of a text tells, or it asks.
use Rattle.std.specs.Prelude.{ℕ, List, [], ◌∷◌, Result, Ok, Err, codes, if◌then◌else◌, map}
use Rattle.std.specs.Str.{bytes_eq}
use Rattle.kc_text.specs.declared.kind.Kind.{Kind}
use Rattle.kc_text.specs.declared.kind.Kind.TheVariants.{MissingField, ExtraField}
use Rattle.kc_text.specs.declared.line.TextLine.TheVariants.{Wrong}
use Rattle.kc_text.specs.Forms.{line_of, number, two_numbers}
use Rattle.kc_text.specs.Lines.{fields, lines}
use Rattle.kc_stream.specs.declared.question.Question.TheVariants.{Core, Members, Sizes, Order}
use Rattle.kc_stream.specs.declared.stream_line.StreamLine.{StreamLine}
use Rattle.kc_stream.specs.declared.stream_line.StreamLine.TheVariants.{Tells, Asks}

-- the number is the last of its line
abbrev pub lone_number : Result ℕ Kind → List (List ℕ) → Result ℕ Kind
lone_number (Err kind) rest = Err kind
lone_number (Ok only) [] = Ok only
lone_number (Ok only) (extra ∷ rest) = Err ExtraField

-- one number and nothing else, or the first that is wrong from the left
abbrev pub one_number : List (List ℕ) → Result ℕ Kind
one_number [] = Err MissingField
one_number (first ∷ rest) = lone_number (number first) rest

-- the question for the core number of an id, or what is wrong with the id
abbrev pub core_form : Result ℕ Kind → StreamLine
core_form (Ok id) = Asks (Core id)
core_form (Err kind) = Tells (Wrong kind)

-- the question for the ids of the core of a level, or what is wrong with the level
abbrev pub members_form : Result ℕ Kind → StreamLine
members_form (Ok level) = Asks (Members level)
members_form (Err kind) = Tells (Wrong kind)

-- the question how many vertices have each core number, by the fields after its word: there may be none
abbrev pub sizes_form : List (List ℕ) → StreamLine
sizes_form [] = Asks Sizes
sizes_form (extra ∷ rest) = Tells (Wrong ExtraField)

-- the question which of two ids stands first, or what is wrong with them
abbrev pub order_form : Result (ℕ × ℕ) Kind → StreamLine
order_form (Ok pair) = Asks (Order pair.0 pair.1)
order_form (Err kind) = Tells (Wrong kind)

-- what a line says that begins with `?`, by the fields after it: `? ID`, `? core K`, `? sizes` or `? order A B`
abbrev pub question_form : List (List ℕ) → StreamLine
question_form [] = Tells (Wrong MissingField)
question_form (first ∷ rest) =
    if bytes_eq first (codes "core") then members_form (one_number rest)
    else if bytes_eq first (codes "sizes") then sizes_form rest
    else if bytes_eq first (codes "order") then order_form (two_numbers rest)
    else core_form (one_number (first ∷ rest))

-- a line whose first field is `?` asks, and any other tells what a line of a text tells
abbrev pub stream_line_of : List (List ℕ) → StreamLine
stream_line_of [] = Tells (line_of [])
stream_line_of (first ∷ rest) = if bytes_eq first (codes "?") then question_form rest else Tells (line_of (first ∷ rest))

-- what a line of a stream says
abbrev pub stream_line : List ℕ → StreamLine
stream_line line = stream_line_of (fields line)

-- what each line of a stream says
abbrev pub stream_lines : List ℕ → List StreamLine
stream_lines bytes = map stream_line (lines bytes)
