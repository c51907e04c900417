-- What is read from a source in a dialect.
use Rattle.std.specs.Prelude.{◌≡◌, ◌<◌, ◌+◌, ◌++◌, ℕ, List, Option, Some, None, IfSome, length}
use Rattle.std.specs.Io.KnownBytes.{Consumes}
use Rattle.kc_dialect.specs.Dialects.{bad_lines}
use Rattle.kc_dialect.specs.Rewritten.{HasFirstBad, HasRewritten}
use Rattle.kc_dialect.specs.Skipped.{AreSkipped}
use Rattle.kc_dialect.specs.declared.bad_line.BadLine.{BadLine}
use Rattle.kc_dialect.specs.declared.dialect.Dialect.{Dialect}
use Rattle.kc_names.specs.Reading.{WasFedIds}
use Rattle.kc_text.specs.Inputs.{IsNamedEdges}
use Rattle.kc_text.specs.Meaning.{Means, Told}
use Rattle.kc_text.specs.declared.limits.TheConstants.Limits.{GRAPH}
use Rattle.kc_dialect_read.specs.Meanings.{dialect_meaning, names_told}
use Rattle.kc_dialect_read.specs.declared.plain_reader.DialectEdges.{DialectEdges}
use Rattle.kc_dialect_read.specs.declared.plain_reader.PlainReader.{PlainReader}
use Rattle.kc_dialect_read.specs.declared.reader.DialectReader.{DialectReader}

-- no bad line has ended the reading: what these bytes were rewritten to was read
pub record Rewrites (reader : PlainReader) (fed : List ℕ) : Type 0 where
  pub written : List ℕ
  pub rewritten : HasRewritten reader.rewriter fed written
  pub read : WasFedIds reader.dialect.ids reader.reader written
  pub dialect : reader.rewriter.lines.dialect ≡ reader.dialect
  pub limits : reader.reader.reader.limits ≡ GRAPH

-- a reader was fed these bytes, and a bad line has ended the reading or none has
abbrev pub WasGivenTill : DialectReader → Option BadLine → List ℕ → Type 0
WasGivenTill reader None fed = Rewrites reader.inner fed
WasGivenTill reader (Some bad) fed = (rest : List ℕ) → HasFirstBad reader.inner.dialect (fed ++ rest) bad

-- a reader was fed these bytes, where so many more are allowed, or none since they are too many
abbrev pub WasGivenWithin : DialectReader → Option ℕ → List ℕ → Type 0
WasGivenWithin reader None fed = GRAPH.bytes < length fed
WasGivenWithin reader (Some left) fed = (left + length fed ≡ GRAPH.bytes) × WasGivenTill reader reader.bad fed

-- a reader was fed just these bytes, one piece after another
abbrev pub WasGiven : DialectReader → List ℕ → Type 0
WasGiven reader fed = WasGivenWithin reader reader.left fed

-- the edges are those that the bytes tell in a dialect, which are all of what is known of them, with the names of the bytes and the bad lines
-- that were passed over
pub record AreEdgesIn (dialect : Dialect) (known : Option (List ℕ)) (found : DialectEdges) : Type 0 where
  pub bytes : List ℕ
  pub read : IfSome known (λ all. bytes ≡ all)
  pub told : Told
  pub means : dialect_meaning dialect bytes ≡ Means told
  pub are : IsNamedEdges told found.named
  pub skipped : AreSkipped found.skipped (bad_lines dialect bytes)
  pub names : found.names ≡ names_told dialect bytes

-- the reader was fed just the bytes that a source gave, and so many more are allowed
pub record HasPassedOn (dialect : Dialect) (before after : Option (List ℕ)) (reader : DialectReader) (left : ℕ) : Type 0 where
  pub given : List ℕ
  pub consumed : Consumes before after given
  pub fed : WasGiven reader given
  pub room : left + length given ≡ GRAPH.bytes
  pub same : reader.inner.dialect ≡ dialect
