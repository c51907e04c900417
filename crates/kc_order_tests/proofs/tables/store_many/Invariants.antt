-- The log has so many stores to the group's word, each with a version more, and nothing else; the table is the same.
use Rattle.std.proofs.Common.{◌≡◌}
use Rattle.kc_order_tests.proofs.SmallTables.{Stored}
use Rattle.kc_order_tests.proofs.tables.store_many.Given as goal

abbrev pub invariant-loop-stored : goal.invariant-loop-stored
invariant-loop-stored l = (l.seat.table ≡ l.fn.seat.table) × Stored l.stored l.seat.log
