-- One shift more at each turn.
use Rattle.std.proofs.Common.{take}
use Rattle.kc_graph.specs.Plans.{shifted}
use Rattle.kc_cert.specs.Local.{firsts}
use Rattle.kc_levels.specs.Makes.{PutsAll}
use Rattle.kc_levels.proofs.making.shift_each.Given as goal

abbrev pub invariant-loop-x : goal.invariant-loop-x
invariant-loop-x l = PutsAll l.fn.levels l.levels (firsts (take l.x-index l.shifts)) (shifted (take l.x-index l.shifts) l.fn.levels.order) l.fn.levels.core
