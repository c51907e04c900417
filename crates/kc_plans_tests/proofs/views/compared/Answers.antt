-- The first core number is still kept after the second was asked.
use Rattle.kc_view.proofs.Keeping.{still_has_core}
use Rattle.kc_plans_tests.proofs.views.compared.Goals as goal

pub precedes-requires-clause-first : goal.precedes-requires-clause-first
precedes-requires-clause-first g c = still_has_core _ _ c.args.x c.core-2.ensures.goes_on.further c.in_ok-first.ensures.told.told
