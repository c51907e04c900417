-- What is left is of these vertices.
use Rattle.std.proofs.Common.{◌<◌, All}
use Rattle.kc_workers_tests.proofs.cut.rest_of.Given as goal

abbrev pub invariant-loop-update : goal.invariant-loop-update
invariant-loop-update g l = All (λ u. u.v < 12) l.rest.items
