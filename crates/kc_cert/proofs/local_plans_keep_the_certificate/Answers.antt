-- A vertex that is not looked at keeps its core number and its neighbours, which don't move: so its later and high ones are as many.
use Rattle.kc_cert.proofs.Keeping.{certified_after}
use Rattle.kc_cert.proofs.local_plans_keep_the_certificate.Goals as goal

pub returns : goal.returns
returns c = certified_after
