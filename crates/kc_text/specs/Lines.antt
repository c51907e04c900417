-- The lines of a text, and their fields.
use Rattle.std.specs.Prelude.{◌≡◌, ◌==◌, ◌||◌, ◌⊎◌, ℕ, Bool, List, [], ◌∷◌, ◌++◌, length, map, nat_lt, if◌then◌else◌}
use Rattle.std.specs.List.{filter, slice_split}
use Rattle.std.specs.Str.Lines.{strip_carriage_return}

-- the byte that ends a line
abbrev pub is_newline : ℕ → Bool
is_newline b = b == 10

-- a space or a tab
abbrev pub is_blank : ℕ → Bool
is_blank b = b == 32 || b == 9

-- whether there is a byte
abbrev pub is_not_empty : List ℕ → Bool
is_not_empty xs = nat_lt 0 (length xs)

-- the parts, but for an empty last one
abbrev pub without_last : List (List ℕ) → List (List ℕ)
without_last [] = []
without_last (part ∷ []) = if is_not_empty part then part ∷ [] else []
without_last (part ∷ next ∷ more) = part ∷ without_last (next ∷ more)

-- bytes in which no line is broken off: there are none, or a newline is the last
abbrev pub EndsLine : List ℕ → Type 0
EndsLine bytes = (bytes ≡ []) ⊎ ((front : List ℕ) × (bytes ≡ front ++ 10 ∷ []))

-- A line ends at a newline or at the end. One carriage return at its end is no part of it.
abbrev pub lines : List ℕ → List (List ℕ)
lines bytes = map strip_carriage_return (without_last (slice_split is_newline bytes))

-- the longest runs of bytes that are no blanks
abbrev pub fields : List ℕ → List (List ℕ)
fields line = filter is_not_empty (slice_split is_blank line)
