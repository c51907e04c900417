-- Store by store, and by the stamps no store puts either.
use Rattle.kc_agree.proofs.Bystanders.{stands_still, stands_too}
use Rattle.kc_agree.proofs.laws.two_that_are_not_moved_stand_as_they_did.Goals as goal

pub returns-clause-still : goal.returns-clause-still
returns-clause-still c = stands_too

pub returns-clause-stamps : goal.returns-clause-stamps
returns-clause-stamps c = stands_still
