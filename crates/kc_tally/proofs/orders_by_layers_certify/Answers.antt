-- Who stands behind a vertex is left at the step in which that is taken, and few of its neighbours are.
use Rattle.kc_tally.proofs.Ordering.{layers-certify, named-order}
use Rattle.kc_tally.proofs.orders_by_layers_certify.Goals as goal

pub returns-clause-any : goal.returns-clause-any
returns-clause-any c = layers-certify

pub returns-clause-named : goal.returns-clause-named
returns-clause-named c = named-order
