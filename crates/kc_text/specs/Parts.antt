-- The parts of a piece of text.
use Rattle.std.specs.Prelude.{◌≡◌, ℕ, List, All, IfSome}
use Rattle.std.specs.List.{flat_map}
use Rattle.kc_text.specs.declared.part.Part.{Part}
use Rattle.kc_text.specs.Forms.{all_said}
use Rattle.kc_text.specs.Lines.{EndsLine}
use Rattle.kc_text.specs.TellingLines.{edge_lines}

-- whole lines, which tell just the edges that are given, where some are
pub record IsPart (part : Part) : Type 0 where
  pub ended : EndsLine part.bytes.now
  pub edges : IfSome part.edges (λ edges. all_said part.bytes.now ≡ edge_lines edges.items)

-- the bytes of parts, one part after the other
abbrev pub bytes_of : List Part → List ℕ
bytes_of parts = flat_map (λ part. part.bytes.now) parts

-- the parts are just these bytes, and each is whole lines
pub record ArePartsOf (bytes : List ℕ) (parts : List Part) : Type 0 where
  pub bytes_are : bytes_of parts ≡ bytes
  pub each : All IsPart parts
