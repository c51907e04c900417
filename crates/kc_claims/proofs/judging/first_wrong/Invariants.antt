-- Of the vertices so far this is the one that is wrong and stands first.
use Rattle.kc_claims.specs.Judging.{IsFirstWrong}
use Rattle.kc_claims.proofs.judging.first_wrong.Given as goal

abbrev pub invariant-loop-v : goal.invariant-loop-v
invariant-loop-v l = IsFirstWrong l.wrong l.sweep l.places l.v l.first
