-- So all stands as far as it was looked at; nobody has dropped an update.
use Rattle.kc_batch.proofs.Closing.{Stood}
use Rattle.kc_batch.proofs.standing.standing_of.Given as goal

abbrev pub invariant-loop-desk : goal.invariant-loop-desk
invariant-loop-desk l = Stood l.desks.items l.desk-index l.standing
