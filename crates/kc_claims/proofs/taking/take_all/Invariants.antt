-- The claims so far are taken.
use Rattle.kc_claims.specs.Taking.{HasTaken}
use Rattle.kc_claims.proofs.taking.take_all.Given as goal

abbrev pub invariant-loop-place : goal.invariant-loop-place
invariant-loop-place l = HasTaken l.ids l.claims l.place l.taken
