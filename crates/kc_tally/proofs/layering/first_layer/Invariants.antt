-- The layer has those of the first vertices that have few neighbours left.
use Rattle.kc_tally.specs.Taking.{IsFirstLayer}
use Rattle.kc_tally.proofs.layering.first_layer.Given as goal

abbrev pub invariant-loop-v : goal.invariant-loop-v
invariant-loop-v l = IsFirstLayer l.core l.left l.layer.items l.v
