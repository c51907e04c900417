-- Step by step some vertices are taken, until none is left.
use Rattle.kc_tally.proofs.Existing.{layers-exist}
use Rattle.kc_tally.proofs.core_numbers_have_layers.Goals as goal

pub returns : goal.returns
returns c = layers-exist
