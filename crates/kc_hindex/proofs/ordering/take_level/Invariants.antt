-- All lesser levels and some vertices of this one are taken; each turn takes one more, and no more can be taken than there are.
use Rattle.std.proofs.Common.{◌≡◌, ◌-◌, length}
use Rattle.kc_graph.specs.Rows.{lists}
use Rattle.kc_hindex.specs.Ordering.{Orders}
use Rattle.kc_hindex.proofs.ordering.take_level.Given as goal

abbrev pub invariant-loop-v : goal.invariant-loop-v
invariant-loop-v l = Orders l.graph l.core l.level l.left l.order.items (lists l.waiting) × (length l.waiting ≡ length l.fn.waiting)

abbrev pub decreases-loop-v : goal.decreases-loop-v
decreases-loop-v l = l.graph.size - length l.order.items
