-- What arcs lead to from the first vertices is settled.
use Rattle.std.proofs.Common.{◌≡◌, ◌≤◌, ◌-◌, length}
use Rattle.kc_order.specs.Standing.{list_after}
use Rattle.kc_topo.specs.Arcs.{arcs_after}
use Rattle.kc_topo.specs.Searching.{AreSettled, IsTrail}
use Rattle.kc_topo.proofs.searching.search.Given as goal

abbrev pub invariant-loop-place : goal.invariant-loop-place
invariant-loop-place l = record {
  size : l.reached.size ≡ l.fn.reached.size;
  within : l.place ≤ length l.reached.vertices;
  trail : IsTrail (arcs_after l.writer.table l.writer.log) (list_after l.writer.table l.writer.log) l.a l.b l.reached;
  settled : AreSettled (arcs_after l.writer.table l.writer.log) (list_after l.writer.table l.writer.log) l.a l.reached l.place;
}

abbrev pub decreases-loop-place : goal.decreases-loop-place
decreases-loop-place l = l.fn.reached.size - l.place
