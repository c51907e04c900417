-- What was put, with the lines of the vertices that are left, are all lines; as many core numbers are left as vertices.
use Rattle.std.proofs.Common.{◌≡◌, ◌++◌, length}
use Rattle.std.specs.Io.{StartsWith}
use Rattle.std.specs.Iterator.Adapters.{zip_first, zip_second}
use Rattle.std.specs.Slice.Iter.{iter_rest}
use Rattle.kc_report.specs.Lines.{core_lines}
use Rattle.kc_report.proofs.pieces.put_core_lines.Given as goal

abbrev pub invariant-loop-id : goal.invariant-loop-id
invariant-loop-id l = record {
  kept : StartsWith l.out.items l.fn.out.items;
  left : l.out.items ++ core_lines (iter_rest (zip_first l.id-iterator)) (iter_rest (zip_second l.id-iterator)) ≡ l.fn.out.items ++ core_lines l.ids l.core;
  even : length (iter_rest (zip_first l.id-iterator)) ≡ length (iter_rest (zip_second l.id-iterator));
}
