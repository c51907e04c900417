-- Up to each step the same vertices are taken.
use Rattle.kc_tally.proofs.Unique.{layers-same}
use Rattle.kc_tally.proofs.layers_are_unique.Goals as goal

pub returns : goal.returns
returns c = layers-same
