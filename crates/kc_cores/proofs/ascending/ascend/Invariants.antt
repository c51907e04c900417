-- Each turn takes a line.
use Rattle.std.proofs.Common.{length}
use Rattle.kc_cores.proofs.ascending.ascend.Given as goal

abbrev pub decreases-loop-line : goal.decreases-loop-line
decreases-loop-line l = length l.rest
