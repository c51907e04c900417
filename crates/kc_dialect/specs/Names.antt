-- The separator that the name of a file tells.
use Rattle.std.specs.Prelude.{ℕ, Bool, List, ◌-◌, length, drop, codes, if◌then◌else◌}
use Rattle.std.specs.Str.{bytes_eq}
use Rattle.kc_dialect.specs.declared.dialect.Separator.{Separator}
use Rattle.kc_dialect.specs.declared.dialect.Separator.TheVariants.{Blank, Comma, Tab}

-- whether a text ends with these bytes
abbrev pub ends_with : List ℕ → List ℕ → Bool
ends_with end text = bytes_eq end (drop (length text - length end) text)

-- the comma of `.csv`, the tab of `.tsv`, and else blanks
abbrev pub separator_of_name : List ℕ → Separator
separator_of_name name = if ends_with (codes ".csv") name then Comma else if ends_with (codes ".tsv") name then Tab else Blank
