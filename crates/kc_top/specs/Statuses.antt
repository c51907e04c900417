-- The number that the program ends with.
use Rattle.std.specs.Prelude.{ℕ}
use Rattle.kc_top.specs.declared.Status.{Status}
use Rattle.kc_top.specs.declared.Status.TheVariants.{Done, Usage, Refused, ReadFault, WriteFault, NoMemory}

-- the exit code of a status
abbrev pub exit_of : Status → ℕ
exit_of Done = 0
exit_of Usage = 2
exit_of Refused = 3
exit_of ReadFault = 4
exit_of WriteFault = 5
exit_of NoMemory = 6
