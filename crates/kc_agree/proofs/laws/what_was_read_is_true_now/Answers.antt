-- Lists by the edge stamps, core numbers and orders by the place stamps.
use Rattle.kc_agree.proofs.Agreeing.{agreement_since}
use Rattle.kc_agree.proofs.laws.what_was_read_is_true_now.Goals as goal

pub returns : goal.returns
returns c = agreement_since
