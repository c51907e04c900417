-- The vertices are told what the claims tell, and so these are told again.
use Rattle.kc_claims.proofs.stream.untold.Goals as goal

pub returns : goal.returns
returns c = λ claims known (order, h). c.in_ok-claims.ensures claims order h
