-- The numbers so far are counted.
use Rattle.std.proofs.Common.{◌≡◌, ◌<◌, ℕ, length, take}
use Rattle.kc_graph.specs.Peeling.{at}
use Rattle.kc_lists.specs.Lists.{times}
use Rattle.kc_cores.proofs.sizes.count_each.Given as goal

abbrev pub invariant-loop-number : goal.invariant-loop-number
invariant-loop-number l = (k : ℕ) → k < length l.counts → at l.counts k ≡ times k (take l.number-index l.numbers)
