-- The column is the one that is left among the fields of what is left of the line.
use Rattle.std.proofs.Common.{◌≡◌, ◌≤◌, ◌+◌, length}
use Rattle.kc_dialect.specs.Columns.{fields_in, in_column}
use Rattle.kc_dialect.proofs.Cells.{fields_left, left_len, seen}
use Rattle.kc_dialect.proofs.columns.field_in.Given as goal

abbrev pub invariant-loop-rest : goal.invariant-loop-rest
invariant-loop-rest l = record {
  same : in_column l.column (fields_in l.separator l.line) ≡ in_column l.left (fields_left l.separator l.before (seen l.rest));
  within : l.before + left_len (seen l.rest) ≤ length l.line + 1;
}

abbrev pub decreases-loop-rest : goal.decreases-loop-rest
decreases-loop-rest l = left_len (seen l.rest)
