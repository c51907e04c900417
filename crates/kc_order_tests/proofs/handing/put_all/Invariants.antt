-- An item that is put and handed over with a split of the pass leaves the pass one of the table.
use Rattle.std.proofs.Common.{◌≡◌}
use Rattle.kc_order_tests.proofs.handing.put_all.Given as goal

abbrev pub invariant-loop-item : goal.invariant-loop-item
invariant-loop-item g l = l.pass.table ≡ l.fn.pass.table
