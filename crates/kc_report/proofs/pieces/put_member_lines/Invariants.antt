-- What was put, with the lines of the members that are left, are all lines.
use Rattle.std.proofs.Common.{◌≡◌, ◌++◌, length}
use Rattle.std.specs.Io.{StartsWith}
use Rattle.std.specs.Iterator.Adapters.{zip_first, zip_second}
use Rattle.std.specs.List.{flat_map}
use Rattle.std.specs.Slice.Iter.{iter_rest}
use Rattle.kc_report.specs.Lines.{member_line, members}
use Rattle.kc_report.proofs.pieces.put_member_lines.Given as goal

abbrev pub invariant-loop-id : goal.invariant-loop-id
invariant-loop-id l = record {
  kept : StartsWith l.out.items l.fn.out.items;
  left : l.out.items ++ flat_map member_line (members (iter_rest (zip_first l.id-iterator)) (iter_rest (zip_second l.id-iterator)) l.level)
      ≡ l.fn.out.items ++ flat_map member_line (members l.ids l.core l.level);
  even : length (iter_rest (zip_first l.id-iterator)) ≡ length (iter_rest (zip_second l.id-iterator));
}
