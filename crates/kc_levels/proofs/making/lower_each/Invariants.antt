-- One more has fallen at each turn, behind the others.
use Rattle.std.proofs.Common.{◌-◌, take}
use Rattle.kc_graph.specs.Plans.{put_between, renumbered}
use Rattle.kc_levels.specs.Heads.{under}
use Rattle.kc_levels.specs.Makes.{PutsAll}
use Rattle.kc_levels.proofs.making.lower_each.Given as goal

abbrev pub invariant-loop-v : goal.invariant-loop-v
invariant-loop-v l = PutsAll l.fn.levels l.levels (take l.v-index l.fall)
    (put_between (under l.fn.levels.core l.level) (take l.v-index l.fall) l.fn.levels.order) (renumbered (take l.v-index l.fall) (l.level - 1) l.fn.levels.core)
