-- A legal log is an opening and then stores that each might follow, so it can be made longer at its end and cut at any place.
use Rattle.std.proofs.Common.{subst}
use Rattle.kc_table.specs.Legal.{StateHolds}
use Rattle.kc_table.proofs.LegalLogs.{legal-nil, legal-push, legal-prefix, legal-opens, legal-last, legal-holds, state_of-push}
use Rattle.kc_table.proofs.laws.a_log_is_legal_store_by_store.Goals as goal

pub returns-clause-empty : goal.returns-clause-empty
returns-clause-empty c = legal-nil

pub returns-clause-longer : goal.returns-clause-longer
returns-clause-longer c =
    λ shape opening log e h may holds. legal-push shape opening log e h may (subst (StateHolds shape) (state_of-push shape opening log e) holds)

pub returns-clause-prefix : goal.returns-clause-prefix
returns-clause-prefix c = legal-prefix

pub returns-clause-opening : goal.returns-clause-opening
returns-clause-opening c = legal-opens

pub returns-clause-last : goal.returns-clause-last
returns-clause-last c = legal-last

pub returns-clause-holds : goal.returns-clause-holds
returns-clause-holds c = legal-holds
