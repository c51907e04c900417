-- The law on certified numbers, from its lemma.
use Rattle.kc_levels.proofs.Laws.{certified-low}
use Rattle.kc_levels.proofs.certified_numbers_are_low.Goals as goal

pub returns : goal.returns
returns c = certified-low
