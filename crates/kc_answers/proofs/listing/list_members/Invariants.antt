-- What is listed, with the members that are left, are all members.
use Rattle.std.proofs.Common.{◌≡◌, ◌++◌, length}
use Rattle.std.specs.Iterator.Adapters.{zip_first, zip_second}
use Rattle.std.specs.Slice.Iter.{iter_rest}
use Rattle.kc_report.specs.Lines.{members}
use Rattle.kc_answers.proofs.listing.list_members.Given as goal

abbrev pub invariant-loop-id : goal.invariant-loop-id
invariant-loop-id l = record {
  left : l.listed.items ++ members (iter_rest (zip_first l.id-iterator)) (iter_rest (zip_second l.id-iterator)) l.level ≡ members l.ids l.core l.level;
  even : length (iter_rest (zip_first l.id-iterator)) ≡ length (iter_rest (zip_second l.id-iterator));
}
