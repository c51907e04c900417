-- The vertices so far stand in the place of their ids.
use Rattle.kc_claims.specs.Placing.{HasPlaced}
use Rattle.kc_claims.proofs.placing.place_all.Given as goal

abbrev pub invariant-loop-place : goal.invariant-loop-place
invariant-loop-place l = HasPlaced l.ids l.fn.column l.place l.column l.named
