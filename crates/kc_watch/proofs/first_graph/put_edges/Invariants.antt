-- What is behind the others are the edges to the greater ones so far.
use Rattle.std.proofs.Common.{◌≡◌, ◌++◌, take}
use Rattle.kc_graph.specs.Neighbours.{edges_to_greater}
use Rattle.kc_watch.proofs.first_graph.put_edges.Given as goal

abbrev pub invariant-loop-w : goal.invariant-loop-w
invariant-loop-w l = l.edges.items ≡ l.initial.edges.items ++ edges_to_greater l.vertex (take l.w-index l.neighbours)
