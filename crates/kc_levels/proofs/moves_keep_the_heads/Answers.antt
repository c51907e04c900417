-- The law on moves, from its lemma.
use Rattle.kc_levels.proofs.Planned.{moves-made}
use Rattle.kc_levels.proofs.moves_keep_the_heads.Goals as goal

pub returns : goal.returns
returns c = λ s moves long enumerates low fit. moves-made s moves record { long = long; enumerates = enumerates; low = low } fit
