-- One entry more at the end of the list.
use Rattle.std.proofs.Common.{ap, get_or}
use Rattle.kc_agree.specs.Stamps.{last_change}
use Rattle.kc_agree.proofs.Neighbouring.{stamp_next, graph_next, not_applied}
use Rattle.kc_agree.proofs.laws.an_entry_changes_the_stamps_of_its_ends.Goals as goal

pub returns-clause-stamp : goal.returns-clause-stamp
returns-clause-stamp c = stamp_next

pub returns-clause-graph : goal.returns-clause-graph
returns-clause-graph c = graph_next

pub returns-clause-kept : goal.returns-clause-kept
returns-clause-kept c = not_applied

pub returns-clause-none : goal.returns-clause-none
returns-clause-none c = λ table opened stamps log v none. ap (λ es. last_change opened es table.shape.base v (get_or stamps v 0)) none
