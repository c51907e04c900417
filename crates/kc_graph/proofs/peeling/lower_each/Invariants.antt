-- The neighbours so far whose numbers were above the level have one less, and stand in the buckets of their new numbers too.
use Rattle.std.proofs.Common.{take}
use Rattle.kc_graph.specs.Rows.{lists}
use Rattle.kc_graph.specs.Peeling.{Lowered}
use Rattle.kc_graph.proofs.peeling.lower_each.Given as goal

abbrev pub invariant-loop-w : goal.invariant-loop-w
invariant-loop-w l = Lowered l.level (take l.w-index l.neighbours) l.fn.core (lists l.fn.buckets) l.core (lists l.buckets)
