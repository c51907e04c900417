-- The first round gives no more than the degree, and from then on lesser numbers of the neighbours give no greater h-index.
use Rattle.kc_hindex.proofs.Settling.{never_rises}
use Rattle.kc_hindex.proofs.rounds_never_rise.Goals as goal

pub returns : goal.returns
returns c = never_rises
