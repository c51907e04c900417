-- The numbers are those of the edges so far.
use Rattle.std.proofs.Common.{◌≡◌, map, take}
use Rattle.kc_cores.specs.Sizes.{lesser_number}
use Rattle.kc_cores.proofs.sizes.lesser_numbers.Given as goal

abbrev pub invariant-loop-edge : goal.invariant-loop-edge
invariant-loop-edge l = l.numbers.items ≡ map (lesser_number l.core) (take l.edge-index l.edges)
