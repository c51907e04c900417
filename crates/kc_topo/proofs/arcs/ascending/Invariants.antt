-- The numbers below the index.
use Rattle.std.proofs.Common.{◌≡◌}
use Rattle.kc_topo.specs.Arcs.{ascending}
use Rattle.kc_topo.proofs.arcs.ascending.Given as goal

abbrev pub invariant-loop-v : goal.invariant-loop-v
invariant-loop-v l = l.order.items ≡ ascending l.v
