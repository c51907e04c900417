-- The law on plans that may be made, from its lemma.
use Rattle.kc_levels.proofs.Laws.{may-make-local}
use Rattle.kc_levels.proofs.local_plans_may_be_made.Goals as goal

pub returns : goal.returns
returns c = may-make-local
