-- They are the numbers of the certificate that there is, and no graph has two lists of core numbers.
use Rattle.kc_watch.proofs.Accounts.{numbers-alone, numbers-are}
use Rattle.kc_watch.proofs.laws.every_graph_has_its_core_numbers.Goals as goal

pub returns-clause-has : goal.returns-clause-has
returns-clause-has c = numbers-are

pub returns-clause-alone : goal.returns-clause-alone
returns-clause-alone c = numbers-alone
