-- The law on what the moves of a plan lead to, from its lemma.
use Rattle.kc_levels.proofs.Laws.{made-local}
use Rattle.kc_levels.proofs.plans_lead_to_the_state_after.Goals as goal

pub returns : goal.returns
returns c = made-local
