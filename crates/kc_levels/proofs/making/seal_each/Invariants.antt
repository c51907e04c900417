-- One seal more at each turn.
use Rattle.std.proofs.Common.{take}
use Rattle.kc_levels.specs.Makes.{SealsAll}
use Rattle.kc_levels.proofs.making.seal_each.Given as goal

abbrev pub invariant-loop-v : goal.invariant-loop-v
invariant-loop-v l = SealsAll l.fn.levels l.levels (take l.v-index l.vertices)
