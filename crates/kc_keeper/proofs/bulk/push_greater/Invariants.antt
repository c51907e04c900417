-- The edges to those before the present one are put behind the pairs.
use Rattle.std.proofs.Common.{◌≡◌, ◌++◌, take}
use Rattle.kc_graph.specs.Neighbours.{edges_to_greater}
use Rattle.kc_keeper.proofs.bulk.push_greater.Given as goal

abbrev pub invariant-loop-w : goal.invariant-loop-w
invariant-loop-w l = l.pairs.items ≡ l.fn.pairs.items ++ edges_to_greater l.v (take l.w-index l.neighbours)
