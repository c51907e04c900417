-- They are layers that there are, and no graph has two lists of them.
use Rattle.kc_watch.proofs.Accounts.{layers-alone, layers-are}
use Rattle.kc_watch.proofs.laws.every_graph_has_its_layers.Goals as goal

pub returns-clause-has : goal.returns-clause-has
returns-clause-has c = layers-are

pub returns-clause-alone : goal.returns-clause-alone
returns-clause-alone c = layers-alone
