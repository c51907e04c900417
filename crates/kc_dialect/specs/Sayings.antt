-- What the lines of a text in a dialect of numbers say, as lines of a plain text.
use Rattle.std.specs.Prelude.{◌+◌, ℕ, List, [], ◌∷◌, Option, Some, None, Result, Ok, Err}
use Rattle.kc_text.specs.declared.line.TextLine.{TextLine}
use Rattle.kc_text.specs.declared.line.TextLine.TheVariants.{Nothing, Edge}
use Rattle.kc_text.specs.Forms.{value}
use Rattle.kc_text.specs.Lines.{lines}
use Rattle.kc_dialect.specs.declared.bad_line.BadField.{BadField}
use Rattle.kc_dialect.specs.declared.dialect.Dialect.{Dialect}
use Rattle.kc_dialect.specs.Dialects.{said_after}

-- an edge between the two numbers of a line, or nothing
abbrev pub saying : Result (Option (List ℕ × List ℕ)) BadField → TextLine
saying (Ok None) = Nothing
saying (Ok (Some pair)) = Edge (value pair.0) (value pair.1)
saying (Err bad) = Nothing

-- what each of the lines says, behind so many others
abbrev pub sayings : Dialect → ℕ → List (List ℕ) → List TextLine
sayings dialect before [] = []
sayings dialect before (line ∷ rest) = saying (said_after dialect before line) ∷ sayings dialect (before + 1) rest

-- what each line of a text in a dialect of numbers says
abbrev pub said_in : Dialect → List ℕ → List TextLine
said_in dialect bytes = sayings dialect 0 (lines bytes)
