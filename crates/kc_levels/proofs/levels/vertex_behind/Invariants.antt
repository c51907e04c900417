-- Heads are passed, and the first vertex behind is found.
use Rattle.std.proofs.Common.{◌≡◌, true, length}
use Rattle.kc_lists.specs.Lists.{member}
use Rattle.kc_order.specs.Standing.{list_after}
use Rattle.kc_levels.specs.Heads.{behind, vertices_of}
use Rattle.kc_levels.proofs.levels.vertex_behind.Given as goal

abbrev pub invariant-loop-y : goal.invariant-loop-y
invariant-loop-y l = record {
  there : member l.at (list_after l.writer.table l.writer.log) ≡ true;
  same : vertices_of l.size (behind l.at (list_after l.writer.table l.writer.log))
      ≡ vertices_of l.size (behind l.fn.x (list_after l.writer.table l.writer.log));
}

abbrev pub decreases-loop-y : goal.decreases-loop-y
decreases-loop-y l = length (behind l.at (list_after l.writer.table l.writer.log))
