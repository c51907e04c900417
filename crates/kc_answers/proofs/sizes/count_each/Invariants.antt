-- The numbers so far are counted.
use Rattle.std.proofs.Common.{◌≡◌, ◌<◌, ℕ, length, take}
use Rattle.std.specs.Prelude.{slice_index}
use Rattle.kc_lists.specs.Lists.{times}
use Rattle.kc_answers.proofs.sizes.count_each.Given as goal

abbrev pub invariant-loop-number : goal.invariant-loop-number
invariant-loop-number l = (k : ℕ) → k < length l.counts → slice_index l.counts k ≡ times k (take l.number-index l.numbers)
