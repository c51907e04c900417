-- The pass stays one of the table.
use Rattle.std.proofs.Common.{◌≡◌}
use Rattle.kc_agree_tests.proofs.publishing.read_all.Given as goal

abbrev pub invariant-loop : goal.invariant-loop
invariant-loop g l = l.pass.table ≡ g.K.Name.opened.table
