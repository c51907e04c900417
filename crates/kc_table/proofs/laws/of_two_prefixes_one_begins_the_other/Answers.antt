-- By the shorter of the two.
use Rattle.kc_table.proofs.Prefixes.{prefix_either}
use Rattle.kc_table.proofs.laws.of_two_prefixes_one_begins_the_other.Goals as goal

pub returns : goal.returns
returns c = prefix_either
