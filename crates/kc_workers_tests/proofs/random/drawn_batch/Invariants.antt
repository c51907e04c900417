-- Each update that was drawn is one of these vertices.
use Rattle.std.proofs.Common.{◌<◌, All}
use Rattle.kc_workers_tests.proofs.random.drawn_batch.Given as goal

abbrev pub invariant-loop : goal.invariant-loop
invariant-loop l = All (λ u. u.v < 12) l.batch.items
