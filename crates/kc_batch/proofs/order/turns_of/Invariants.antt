-- What was peeled has all vertices.
use Rattle.std.proofs.Common.{◌≡◌}
use Rattle.std.specs.Option.{IfSome}
use Rattle.kc_batch.proofs.order.turns_of.Given as goal

abbrev pub invariant-loop-update : goal.invariant-loop-update
invariant-loop-update l = IfSome l.peeled (λ p. p.graph.size ≡ l.fn.vertices)
