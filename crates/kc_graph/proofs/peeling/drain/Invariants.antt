-- All is peeled with the bucket's first `turn` vertices left out; a turn lessens the sum of the core numbers and of those that wait.
use Rattle.std.proofs.Common.{◌≤◌, length}
use Rattle.kc_graph.specs.Rows.{lists, row}
use Rattle.kc_graph.specs.Peeling.{Peels, from_turn, work}
use Rattle.kc_graph.proofs.peeling.drain.Given as goal

abbrev pub invariant-loop-v : goal.invariant-loop-v
invariant-loop-v l = (l.turn ≤ length (row (lists l.buckets) l.level)) × Peels l.graph l.level l.core l.order.items (from_turn l.level l.turn (lists l.buckets))

abbrev pub decreases-loop-v : goal.decreases-loop-v
decreases-loop-v l = work l.level l.core (from_turn l.level l.turn (lists l.buckets))
