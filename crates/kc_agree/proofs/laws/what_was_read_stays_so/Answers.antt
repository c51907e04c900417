-- A prefix of a prefix is a prefix.
use Rattle.kc_agree.proofs.Growing.{reads_stay}
use Rattle.kc_agree.proofs.laws.what_was_read_stays_so.Goals as goal

pub returns : goal.returns
returns c = reads_stay
