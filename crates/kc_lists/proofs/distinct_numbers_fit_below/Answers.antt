-- By induction on the bound: without the greatest number below it, one number less is below a bound less by one.
use Rattle.kc_lists.proofs.Members.{below_bound}
use Rattle.kc_lists.proofs.distinct_numbers_fit_below.Goals as goal

pub returns : goal.returns
returns c = below_bound
