-- The meaning of a text by a stricter rule: a batch names each pair at most once, and a line that names one again ends the reading.
use Rattle.std.specs.Prelude.{ℕ, ◌+◌, Bool, false, List, [], ◌∷◌, length, nat_lt, if◌then◌else◌, Option, Some, None}
use Rattle.std.specs.List.{list_any}
use Rattle.std.specs.Option.{option_map}
use Rattle.kc_text.specs.declared.change.ChangeLine as change
use Rattle.kc_text.specs.declared.kind.Kind.{Kind}
use Rattle.kc_text.specs.declared.kind.Kind.TheVariants.{TooLong}
use Rattle.kc_text.specs.declared.line.TextLine.{TextLine}
use Rattle.kc_text.specs.declared.line.TextLine.TheVariants.{Nothing, Edge, Batch, Change, Wrong}
use Rattle.kc_text.specs.Forms.{all_said}
use Rattle.kc_text.specs.Meaning.{Told, name_same, nothing_told, passed_limit, refusal, unfit, with_line}
use Rattle.kc_text.specs.declared.limits.Limits.{Limits}

-- why a line ends the reading: it is refused, or it names a pair that its batch has named
pub data Cause : Type 0 where
  IsRefused : Kind → Cause
  NamesAgain : Cause

-- whether the last batch, if there is one, has named the pair of a change
abbrev pub was_named : Option (List change.ChangeLine) → change.ChangeLine → Bool
was_named None c = false
was_named (Some batch) c = list_any (name_same c) batch

-- the first cause of two checks
abbrev pub cause_or : Option Cause → Option Cause → Option Cause
cause_or (Some cause) next = Some cause
cause_or None next = next

-- Why a line ends the reading, if it does. That a pair is named again is found after all but the limits.
abbrev pub cause_of : Limits → Told → TextLine → Option Cause
cause_of limits told Nothing = None
cause_of limits told (Edge a b) = option_map IsRefused (refusal limits told (Edge a b))
cause_of limits told Batch = option_map IsRefused (refusal limits told Batch)
cause_of limits told (Change c) =
    cause_or (option_map IsRefused (unfit told.last c))
    (if was_named told.last c then Some NamesAgain else option_map IsRefused (passed_limit limits (with_line told (Change c))))
cause_of limits told (Wrong kind) = Some (IsRefused kind)

-- the first line that ends the reading, and why, or else what all lines tell
pub data StrictMeaning : Type 0 where
  Ends : ℕ → Cause → StrictMeaning
  Tells : Told → StrictMeaning

-- the reading ends at this line if there is a cause, and else means what the rest does
abbrev pub ends_at : Option Cause → ℕ → StrictMeaning → StrictMeaning
ends_at (Some cause) line rest = Ends line cause
ends_at None line rest = rest

-- the meaning of the rest of the lines, after so many lines that have told this
abbrev pub strict_reading : Limits → ℕ → Told → List TextLine → StrictMeaning
strict_reading limits done told [] = Tells told
strict_reading limits done told (line ∷ rest) = ends_at (cause_of limits told line) (done + 1) (strict_reading limits (done + 1) (with_line told line) rest)

-- what the bytes of a text mean by the stricter rule
abbrev pub strict_meaning : Limits → List ℕ → StrictMeaning
strict_meaning limits bytes = if nat_lt limits.bytes (length bytes) then Ends 0 (IsRefused TooLong) else strict_reading limits 0 nothing_told (all_said bytes)
