-- The vertices of the layer so far are taken.
use Rattle.std.proofs.Common.{take}
use Rattle.kc_tally.specs.Taking.{TakesLayer}
use Rattle.kc_tally.proofs.layering.take_layer.Given as goal

abbrev pub invariant-loop-v : goal.invariant-loop-v
invariant-loop-v l = TakesLayer l.graph l.core (take l.v-index l.layer) l.fn.left l.left l.next.items
