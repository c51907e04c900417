-- What a reader of a text was fed.
use Rattle.std.specs.Prelude.{◌≡◌, ◌≤◌, ◌<◌, ◌+◌, ◌^◌, ℕ, List, [], ◌++◌, length, Option, Some, None}
use Rattle.kc_text.specs.declared.text_reader.TextReader.{TextReader}
use Rattle.kc_text.specs.Forms.{all_said}
use Rattle.kc_text.specs.Lines.{EndsLine}
use Rattle.kc_text.specs.Readers.{HasRoom}
use Rattle.kc_text.specs.Readings.{CanRead, Reads}

-- A reader was fed these bytes, which are not too many: it has read the lines that end in them, and keeps the bytes behind.
pub record KeepsUp (reader : TextReader) (left : ℕ) (fed : List ℕ) : Type 0 where
  pub done : List ℕ
  pub parts : fed ≡ done ++ reader.carry.items
  pub ended : EndsLine done
  pub reads : Reads reader.limits reader.lines (all_said done)
  pub can : CanRead reader.lines
  pub lines : reader.lines.numbers.lines ≤ length done
  pub fits : reader.limits.bytes < 2 ^ 64
  pub room : left + length fed ≡ reader.limits.bytes

-- a reader was fed these bytes, where so many more are allowed, or none since they are too many
abbrev pub WasFedWithin : TextReader → Option ℕ → List ℕ → Type 0
WasFedWithin reader None fed = reader.limits.bytes < length fed
WasFedWithin reader (Some left) fed = KeepsUp reader left fed

-- a reader was fed just these bytes, one piece after another
abbrev pub WasFed : TextReader → List ℕ → Type 0
WasFed reader fed = WasFedWithin reader reader.left fed

-- Bytes that are so many, some, and tell so many edges may be taken in one go: no line was begun before or is refused, there is room for
-- the edges, and so many bytes are left then.
pub record CanTake (reader : TextReader) (bytes edges left : ℕ) : Type 0 where
  pub says : reader.left ≡ Some (left + bytes)
  pub some : 0 < bytes
  pub none_begun : reader.carry.items ≡ []
  pub going : reader.lines.refusal ≡ None
  pub room : HasRoom reader.limits reader.lines.reader edges
