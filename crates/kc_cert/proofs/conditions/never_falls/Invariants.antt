-- The core numbers never fall along the order so far, and `last` is the number of the vertex before.
use Rattle.kc_cert.proofs.Falling.{RisenTo}
use Rattle.kc_cert.proofs.conditions.never_falls.Given as goal

abbrev pub invariant-loop-v : goal.invariant-loop-v
invariant-loop-v l = RisenTo l.core l.order l.v-index l.last
