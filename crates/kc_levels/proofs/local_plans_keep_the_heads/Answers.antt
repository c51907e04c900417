-- The law on local plans, from its lemma.
use Rattle.kc_levels.proofs.Laws.{local-made}
use Rattle.kc_levels.proofs.local_plans_keep_the_heads.Goals as goal

pub returns : goal.returns
returns c = local-made
