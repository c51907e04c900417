-- The law is a lemma.
use Rattle.kc_claims.proofs.Refuting.{no_fault}
use Rattle.kc_claims.proofs.a_certificate_has_no_fault.Goals as goal

pub returns : goal.returns
returns c = λ ids g claims fault up size certificate. no_fault ids claims g up size certificate fault
