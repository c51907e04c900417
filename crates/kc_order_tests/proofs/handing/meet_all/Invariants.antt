-- The pass stays one of the table through each meeting, and no more than all 10,000 items are met.
use Rattle.std.proofs.Common.{◌≡◌, ◌≤◌}
use Rattle.kc_order_tests.proofs.handing.meet_all.Given as goal

abbrev pub invariant-loop : goal.invariant-loop
invariant-loop g l = (l.pass.table ≡ l.fn.pass.table) × (l.met ≤ 10000)
