-- The vertices stay binned, and those whose turn is over are taken.
use Rattle.std.proofs.Common.{◌≡◌, length, take}
use Rattle.kc_flat.specs.Bins.{AreBinned}
use Rattle.kc_flat.proofs.Taking.{ArePeeled}
use Rattle.kc_flat.proofs.peeling.take_all.Given as goal

abbrev pub invariant-loop-turn : goal.invariant-loop-turn
invariant-loop-turn g l =
    AreBinned l.core l.order l.places l.ends × (length l.core ≡ l.graph.size) × ArePeeled l.graph l.core (take l.turn l.order)
