-- Each end of the updates before the present one is a vertex.
use Rattle.std.proofs.Common.{take}
use Rattle.kc_keeper.specs.Causes.{EndsAreWithin}
use Rattle.kc_keeper.proofs.entering.first_outside.Given as goal

abbrev pub invariant-loop-place : goal.invariant-loop-place
invariant-loop-place l = EndsAreWithin l.vertices (take l.place l.updates)
