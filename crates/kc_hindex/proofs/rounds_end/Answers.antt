-- While rounds change numbers the sum of the numbers falls, so one changes none; of two first such rounds neither comes earlier.
use Rattle.kc_hindex.proofs.Settling.{rounds_exist, rounds_only}
use Rattle.kc_hindex.proofs.rounds_end.Goals as goal

pub returns : goal.returns
returns c = record { exist = rounds_exist; only = rounds_only }
