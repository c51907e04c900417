-- The account behind it is that with a batch without changes.
use Rattle.std.proofs.Common.{[], ap, ◌∙◌}
use Rattle.kc_watch.specs.Accounts.{Account, account_of}
use Rattle.kc_watch.proofs.Accounts.{account-push, account-size, nothing-changes}
use Rattle.kc_watch.proofs.laws.a_dropped_batch_changes_nothing.Goals as goal

pub returns-clause-ids : goal.returns-clause-ids
returns-clause-ids c = λ edges earlier. ap (λ (a : Account). a.ids) (account-push edges earlier [])

pub returns-clause-graph : goal.returns-clause-graph
returns-clause-graph c = λ edges earlier.
    ap (λ (a : Account). a.graph) (account-push edges earlier [])
    ∙ nothing-changes (account_of edges earlier) (account-size edges earlier)

pub returns-clause-counted : goal.returns-clause-counted
returns-clause-counted c = λ edges earlier. ap (λ (a : Account). a.ended) (account-push edges earlier [])
