-- One seal more at each turn.
use Rattle.std.proofs.Common.{take}
use Rattle.kc_cert.specs.Local.{firsts}
use Rattle.kc_levels.specs.Makes.{SealsAll}
use Rattle.kc_levels.proofs.making.seal_shifted.Given as goal

abbrev pub invariant-loop-x : goal.invariant-loop-x
invariant-loop-x l = SealsAll l.fn.levels l.levels (firsts (take l.x-index l.shifts))
