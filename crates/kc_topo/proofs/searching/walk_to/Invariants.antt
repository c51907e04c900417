-- What was found so far is, read backwards, a walk from the vertex at the place.
use Rattle.std.proofs.Common.{◌<◌, length, get_or, reverse}
use Rattle.kc_topo.specs.Arcs.{IsWalk, arcs_after}
use Rattle.kc_topo.proofs.searching.walk_to.Given as goal

abbrev pub invariant-loop-at : goal.invariant-loop-at
invariant-loop-at l = record {
  within : l.at < length l.reached.vertices;
  walks : IsWalk (arcs_after l.writer.table l.writer.log) (get_or l.reached.vertices l.at 0) l.a (reverse l.walk.items);
}

abbrev pub decreases-loop-at : goal.decreases-loop-at
decreases-loop-at l = l.at
