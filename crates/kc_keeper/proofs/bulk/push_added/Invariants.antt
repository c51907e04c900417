-- Of those before the present update it is told, and the new edges of theirs are put behind the pairs.
use Rattle.std.proofs.Common.{◌≡◌, ◌++◌, take}
use Rattle.kc_keeper.specs.Bulk.{IsToldAlone, applied_alone, pairs_of}
use Rattle.kc_keeper.proofs.bulk.push_added.Given as goal

abbrev pub invariant-loop-update : goal.invariant-loop-update
invariant-loop-update l = record {
  pairs : l.pairs.items ≡ l.fn.pairs.items ++ pairs_of (applied_alone l.graph (take l.update-index l.updates));
  told : IsToldAlone l.graph (take l.update-index l.updates) l.changes;
}
