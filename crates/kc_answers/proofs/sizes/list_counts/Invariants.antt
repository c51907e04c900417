-- The numbers so far are listed.
use Rattle.std.proofs.Common.{◌≡◌}
use Rattle.kc_answers.specs.Counted.{counted_below}
use Rattle.kc_answers.proofs.sizes.list_counts.Given as goal

abbrev pub invariant-loop-number : goal.invariant-loop-number
invariant-loop-number l = l.listed.items ≡ counted_below l.counts l.number
