-- Each neighbour so far with more left than its core number has lost one, and waits in the row of that number if no more is left.
use Rattle.std.proofs.Common.{take}
use Rattle.kc_graph.specs.Rows.{lists}
use Rattle.kc_hindex.specs.Ordering.{Released}
use Rattle.kc_hindex.proofs.ordering.release_each.Given as goal

abbrev pub invariant-loop-w : goal.invariant-loop-w
invariant-loop-w l = Released l.core (take l.w-index l.neighbours) l.fn.left (lists l.fn.waiting) l.left (lists l.waiting)
