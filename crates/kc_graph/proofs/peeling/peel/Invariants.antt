-- Vertices have been taken up to the level, and there are still as many buckets as levels.
use Rattle.std.proofs.Common.{◌≡◌, length}
use Rattle.kc_graph.specs.Rows.{lists}
use Rattle.kc_graph.specs.Peeling.{Peels}
use Rattle.kc_graph.proofs.peeling.peel.Given as goal

abbrev pub invariant-loop-level : goal.invariant-loop-level
invariant-loop-level l = (length l.buckets.items ≡ l.levels) × Peels l.graph l.level l.core.items l.order.items (lists l.buckets.items)
