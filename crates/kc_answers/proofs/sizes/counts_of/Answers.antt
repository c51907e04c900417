-- There is a count for each number up to the greatest.
use Rattle.std.proofs.Common.{arith, ap, length}
use Rattle.kc_answers.proofs.Levels.{below-next}
use Rattle.kc_answers.proofs.sizes.counts_of.Goals as goal

pub count_each-requires-clause-within : goal.count_each-requires-clause-within
count_each-requires-clause-within c =
    below-next c.args.numbers.now (length c.deref_mut.result.now)
    (omega (arith, ap length c.deref_mut.ensures.value, c.in_ok-counts.ensures.len, c.greatest.ensures))
