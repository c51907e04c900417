-- One more has risen at each turn, before the others.
use Rattle.std.proofs.Common.{◌≤◌, ◌+◌, drop, length}
use Rattle.kc_graph.specs.Plans.{put_between, renumbered}
use Rattle.kc_levels.specs.Heads.{up_to}
use Rattle.kc_levels.specs.Makes.{PutsAll, backwards}
use Rattle.kc_levels.proofs.making.raise_each.Given as goal

abbrev pub invariant-loop-i : goal.invariant-loop-i
invariant-loop-i l = record {
  within : l.i ≤ length l.rise;
  puts : PutsAll l.fn.levels l.levels (backwards (drop l.i l.rise))
      (put_between (up_to l.fn.levels.core l.level) (drop l.i l.rise) l.fn.levels.order) (renumbered (drop l.i l.rise) (l.level + 1) l.fn.levels.core);
}

abbrev pub decreases-loop-i : goal.decreases-loop-i
decreases-loop-i l = l.i
