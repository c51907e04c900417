-- The graph has the same vertices.
use Rattle.std.proofs.Common.{◌≡◌}
use Rattle.watch_cores.proofs.working.apply.Given as goal

abbrev pub invariant-loop-update : goal.invariant-loop-update
invariant-loop-update l = l.graph.size ≡ l.fn.graph.size
