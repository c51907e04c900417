-- The number that the program ends with.
use Rattle.std.specs.Prelude.{ℕ}
use Rattle.kc_cores.specs.declared.CoresStatus.{CoresStatus}
use Rattle.kc_cores.specs.declared.CoresStatus.TheVariants.{Done, Shown, Usage, Refused, Unopened}
use Rattle.kc_cores.specs.declared.CoresStatus.TheVariants.{ReadFault, ReaderGone, WriteFault, NoMemory, Certified, Uncertified}

-- The exit code of a status: one for a file that can't be opened and one that can't be read. A reader that went away has what it wanted.
abbrev pub exit_number_of : CoresStatus → ℕ
exit_number_of Done = 0
exit_number_of Shown = 0
exit_number_of ReaderGone = 0
exit_number_of Certified = 0
exit_number_of Uncertified = 1
exit_number_of Usage = 2
exit_number_of Refused = 3
exit_number_of Unopened = 4
exit_number_of ReadFault = 4
exit_number_of WriteFault = 5
exit_number_of NoMemory = 6
