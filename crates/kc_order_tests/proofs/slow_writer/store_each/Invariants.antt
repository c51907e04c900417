-- The log has grown by the stores of the writes so far, in their order, and the table is the same.
use Rattle.std.proofs.Common.{◌≡◌, ◌++◌, take}
use Rattle.kc_order.specs.Writers.{stores_of}
use Rattle.kc_order_tests.proofs.slow_writer.store_each.Given as goal

abbrev pub invariant-loop-write : goal.invariant-loop-write
invariant-loop-write l = (l.seat.table ≡ l.fn.seat.table) × (l.seat.log ≡ l.fn.seat.log ++ stores_of (take l.write-index l.writes))
