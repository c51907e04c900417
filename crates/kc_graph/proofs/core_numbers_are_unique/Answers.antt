-- A number of the one list is reached, so it is not above that of the other list, which is the greatest; and the other way round.
use Rattle.kc_graph.proofs.Law.{core-unique}
use Rattle.kc_graph.proofs.core_numbers_are_unique.Goals as goal

pub returns : goal.returns
returns c = core-unique
