-- All entries, and none.
use Rattle.kc_agree.proofs.Growing.{neighbours-published, opened_with}
use Rattle.kc_agree.proofs.laws.lists_that_may_be_told.Goals as goal

pub returns-clause-present : goal.returns-clause-present
returns-clause-present c = neighbours-published

pub returns-clause-opening : goal.returns-clause-opening
returns-clause-opening c = opened_with
