-- The first core number is still kept once the second was asked.
use Rattle.kc_view.proofs.Keeping.{still_has_core}
use Rattle.kc_plans_tests.proofs.whim_answers.order_of.Goals as goal

pub precedes-requires-clause-first : goal.precedes-requires-clause-first
precedes-requires-clause-first g c = still_has_core _ _ c.args.x c.core-2.ensures.goes_on.further c.in_ok-_first.ensures.told.told
