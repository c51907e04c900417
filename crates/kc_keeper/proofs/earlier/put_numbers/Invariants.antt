-- The changes before the present one have the number of now, and the others are as they were.
use Rattle.kc_keeper.proofs.PutNumbers.{NumbersPut}
use Rattle.kc_keeper.proofs.earlier.put_numbers.Given as goal

abbrev pub invariant-loop-change : goal.invariant-loop-change
invariant-loop-change l = NumbersPut l.core l.initial.changes l.changes l.change-index
