-- The pass stays one of the table.
use Rattle.std.proofs.Common.{◌≡◌}
use Rattle.kc_agree_tests.proofs.publishing.publish_and_read.Given as goal

abbrev pub invariant-loop-vertex : goal.invariant-loop-vertex
invariant-loop-vertex g l = l.pass.table ≡ g.K.Name.opened.table
