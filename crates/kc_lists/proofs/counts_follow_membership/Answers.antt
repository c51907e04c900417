-- By induction: a number that passes is erased from the other list, which still has all that are left and pass.
use Rattle.kc_lists.proofs.Counting.{count-le}
use Rattle.kc_lists.proofs.counts_follow_membership.Goals as goal

pub returns : goal.returns
returns c = count-le
