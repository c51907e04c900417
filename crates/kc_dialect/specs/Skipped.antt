-- The bad lines that are kept.
use Rattle.std.specs.Prelude.{◌≡◌, List, length, take}
use Rattle.kc_dialect.specs.declared.bad_line.BadLine.{BadLine}
use Rattle.kc_dialect.specs.declared.skipped.SkippedLines.{SkippedLines}
use Rattle.kc_dialect.specs.declared.skipped.TheConstants.{MOST_KEPT}

-- so many were these bad lines, and the first of them are kept
pub record AreSkipped (skipped : SkippedLines) (bad : List BadLine) : Type 0 where
  pub count : skipped.count ≡ length bad
  pub first : skipped.first.items ≡ take MOST_KEPT bad
