-- What was looked at so far is settled, and the trail holds.
use Rattle.std.proofs.Common.{◌≡◌, ℕ, true, take}
use mathlib.Core.List.{IsPrefix}
use Rattle.kc_lists.specs.Lists.{member}
use Rattle.kc_order.specs.Standing.{list_after}
use Rattle.kc_topo.specs.Arcs.{arcs_after}
use Rattle.kc_topo.specs.Searching.{IsSettled, IsTrail}
use Rattle.kc_topo.proofs.searching.look.Given as goal

abbrev pub invariant-loop-next : goal.invariant-loop-next
invariant-loop-next l = record {
  size : l.reached.size ≡ l.fn.reached.size;
  trail : IsTrail (arcs_after l.writer.table l.writer.log) (list_after l.writer.table l.writer.log) l.a l.b l.reached;
  grows : IsPrefix l.fn.reached.vertices l.reached.vertices;
  settled : (w : ℕ) → member w (take l.next-index l.row) ≡ true → IsSettled (list_after l.writer.table l.writer.log) l.a l.reached w;
}
