-- What is listed, with the ids that are left, are all of them; as many core numbers are left as ids.
use Rattle.std.proofs.Common.{◌≡◌, ◌++◌, length, map}
use Rattle.std.specs.Iterator.Adapters.{zip_first, zip_second}
use Rattle.std.specs.List.{zip}
use Rattle.std.specs.Slice.Iter.{iter_rest}
use Rattle.kc_watch.specs.Endings.{new_change}
use Rattle.kc_watch.proofs.listing.list_new.Given as goal

abbrev pub invariant-loop-id : goal.invariant-loop-id
invariant-loop-id l = record {
  left : l.listed.items ++ map new_change (zip (iter_rest (zip_first l.id-iterator)) (iter_rest (zip_second l.id-iterator)))
      ≡ l.fn.listed.items ++ map new_change (zip l.ids l.core);
  even : length (iter_rest (zip_first l.id-iterator)) ≡ length (iter_rest (zip_second l.id-iterator));
}
