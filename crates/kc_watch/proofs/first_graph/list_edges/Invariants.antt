-- The edges of the vertices so far are listed.
use Rattle.kc_watch.specs.Room.{ListsEdgesBelow}
use Rattle.kc_watch.proofs.first_graph.list_edges.Given as goal

abbrev pub invariant-loop-vertex : goal.invariant-loop-vertex
invariant-loop-vertex l = ListsEdgesBelow l.graph l.vertex l.edges.items
