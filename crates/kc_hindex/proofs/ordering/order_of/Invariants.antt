-- The vertices of the levels below `level` are taken, each with few neighbours left; the others are counted, with a row for each level.
use Rattle.std.proofs.Common.{◌≡◌, length}
use Rattle.kc_graph.specs.Rows.{lists}
use Rattle.kc_hindex.specs.Ordering.{Orders}
use Rattle.kc_hindex.proofs.ordering.order_of.Given as goal

abbrev pub invariant-loop-level : goal.invariant-loop-level
invariant-loop-level l = Orders l.graph l.core l.level l.left.items l.order.items (lists l.waiting.items) × (length l.waiting.items ≡ l.levels)
