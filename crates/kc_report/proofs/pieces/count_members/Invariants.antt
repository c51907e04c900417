-- The count so far, with the members that are left, are all members.
use Rattle.std.proofs.Common.{◌≡◌, ◌≤◌, ◌+◌, length}
use Rattle.std.specs.Iterator.Adapters.{zip_first, zip_second}
use Rattle.std.specs.Slice.Iter.{iter_rest}
use Rattle.kc_report.specs.Lines.{members}
use Rattle.kc_report.proofs.pieces.count_members.Given as goal

abbrev pub invariant-loop-number : goal.invariant-loop-number
invariant-loop-number l = record {
  left : l.count + length (members (iter_rest (zip_first l.number-iterator)) (iter_rest (zip_second l.number-iterator)) l.level)
      ≡ length (members l.ids l.core l.level);
  few : l.count + length (iter_rest (zip_first l.number-iterator)) ≤ length l.ids;
  even : length (iter_rest (zip_first l.number-iterator)) ≡ length (iter_rest (zip_second l.number-iterator));
}
