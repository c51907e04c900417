-- Those before the present update are made and told of, and the numbers from before them are kept.
use Rattle.kc_keeper.proofs.InTurn.{MadeSoFar}
use Rattle.kc_keeper.proofs.keeper.Keeper.make_all.Given as goal

abbrev pub invariant-loop-made : goal.invariant-loop-made
invariant-loop-made l = MadeSoFar l.fn.self l.fn.earlier l.updates l.made l.self l.changes l.earlier
