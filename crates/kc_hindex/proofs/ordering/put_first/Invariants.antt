-- Of the first `v` vertices just those with no more neighbours than their core number stand, once, in the row of that number.
use Rattle.std.proofs.Common.{◌≡◌, length}
use Rattle.kc_graph.specs.Rows.{lists}
use Rattle.kc_hindex.specs.Ordering.{Sorted}
use Rattle.kc_hindex.proofs.ordering.put_first.Given as goal

abbrev pub invariant-loop-v : goal.invariant-loop-v
invariant-loop-v l = Sorted l.core l.left l.v (lists l.waiting) × (length l.waiting ≡ length l.fn.waiting)
