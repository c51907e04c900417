-- At the beginning of each step the layer is the one that it takes; each step that takes some leaves fewer vertices.
use Rattle.std.proofs.Common.{◌-◌}
use Rattle.kc_tally.proofs.Steps.{Layered}
use Rattle.kc_tally.proofs.layering.rank_by_layers.Given as goal

abbrev pub invariant-loop-alloc : goal.invariant-loop-alloc
invariant-loop-alloc l = Layered l.graph l.core l.step l.left l.rank l.layer.items

abbrev pub decreases-loop-alloc : goal.decreases-loop-alloc
decreases-loop-alloc l = l.graph.size - l.step
