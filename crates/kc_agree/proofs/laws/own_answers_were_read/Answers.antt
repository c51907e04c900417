-- The prefix of each answer is the log itself.
use Rattle.kc_agree.proofs.Owning.{own_read}
use Rattle.kc_agree.proofs.laws.own_answers_were_read.Goals as goal

pub returns : goal.returns
returns c = λ table opened stamps log s a rest state early own. own_read table opened stamps log s rest state early a own
