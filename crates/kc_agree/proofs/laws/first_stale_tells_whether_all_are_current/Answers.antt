-- The stamps of the table are those of the two lists.
use Rattle.kc_agree.proofs.Answering.{all_current, not_current}
use Rattle.kc_agree.proofs.laws.first_stale_tells_whether_all_are_current.Goals as goal

pub returns-clause-none : goal.returns-clause-none
returns-clause-none c = all_current

pub returns-clause-some : goal.returns-clause-some
returns-clause-some c = not_current
