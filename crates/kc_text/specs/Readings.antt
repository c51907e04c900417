-- What a reading of lines has found.
use Rattle.std.specs.Prelude.{◌≡◌, ◌≤◌, ℕ, List, [], ◌++◌, map, Option, Some, None}
use Rattle.std.specs.List.{filter}
use Rattle.kc_text.specs.declared.kind.Kind.{Kind}
use Rattle.kc_text.specs.declared.limits.Limits.{Limits}
use Rattle.kc_text.specs.declared.line.TextLine.{TextLine}
use Rattle.kc_text.specs.declared.line_numbers.LineNumbers.{LineNumbers}
use Rattle.kc_text.specs.declared.reading.LineReader.{LineReader}
use Rattle.kc_text.specs.declared.reading.Reading.{Reading}
use Rattle.kc_text.specs.declared.refusal.Refusal.{Refusal}
use Rattle.kc_text.specs.Inputs.{AreIds}
use Rattle.kc_text.specs.Meaning.{Meaning, Refuses, Told, batches, names, nothing_told, reading}
use Rattle.kc_text.specs.Numbering.{HasNumbers}
use Rattle.kc_text.specs.Readers.{IsExact, ReaderKeeps, told_by, told_lines}
use Rattle.kc_text.specs.TellingLines.{is_telling}

-- a reading has what was told, and its ids
pub record IsReading (told : Told) (reading : Reading) : Type 0 where
  pub edges : reading.edges.items ≡ told.edges
  pub batches : map (λ batch. batch.items) reading.batches.items ≡ batches told
  pub ids : AreIds (names told) reading.ids.items

-- the refusal of a line, where there is a cause
abbrev pub refusal_at : Option Kind → ℕ → Option Refusal
refusal_at None line = None
refusal_at (Some kind) line = Some (record { line = line; kind = kind })

-- where no line is refused so far, one more may be read
pub record CanRead (reader : LineReader) : Type 0 where
  pub kept : reader.refusal ≡ None → ReaderKeeps reader.reader
  pub few : reader.refusal ≡ None → reader.reader.changes ≤ reader.numbers.lines
  pub order : reader.numbers.telling ≤ reader.numbers.lines

-- what lines mean behind those that were read: the refusal of these, or else what they told and the others tell
abbrev pub goes_on : Limits → Option Refusal → ℕ → Told → List TextLine → Meaning
goes_on limits None done told rest = reading limits done told rest
goes_on limits (Some refusal) done told rest = Refuses refusal.line refusal.kind

-- These lines were read, and each but the last was taken. If the count of ids is exact, what they mean with any others behind them is
-- known. What was told is told by the telling lines, but for a last one that is refused.
pub record HasRead (limits : Limits) (reader : LineReader) (lines : List TextLine) : Type 0 where
  pub exact : IsExact limits reader.reader → (rest : List TextLine)
      → reading limits 0 nothing_told (lines ++ rest) ≡ goes_on limits reader.refusal reader.numbers.lines (told_by reader.reader) rest
  pub numbers : HasNumbers reader.numbers lines
  pub more : List TextLine
  pub told : filter is_telling lines ≡ told_lines (told_by reader.reader) ++ more
  pub whole : reader.refusal ≡ None → more ≡ []

-- of these lines all were read, or those up to one that is refused
pub record Reads (limits : Limits) (reader : LineReader) (lines : List TextLine) : Type 0 where
  pub front : List TextLine
  pub behind : List TextLine
  pub parts : lines ≡ front ++ behind
  pub all : reader.refusal ≡ None → behind ≡ []
  pub read : HasRead limits reader front

-- what was found by a reader of these lines, which kept these numbers of lines
pub record IsFound (limits : Limits) (numbers : LineNumbers) (found : Reading) (lines : List TextLine) : Type 0 where
  pub reader : LineReader
  pub kept : reader.numbers ≡ numbers
  pub reads : Reads limits reader lines
  pub told : IsReading (told_by reader.reader) found
  pub refused : found.refusal ≡ reader.refusal
