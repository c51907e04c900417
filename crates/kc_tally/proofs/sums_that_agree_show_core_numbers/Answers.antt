-- The sums are the tally of the pieces together, which have each edge once.
use Rattle.std.proofs.Common.{length}
use Rattle.kc_tally.specs.Lists.{edges_of_pieces}
use Rattle.kc_tally.proofs.Faults.{once-pieces}
use Rattle.kc_tally.proofs.Sums.{tally-pieces}
use Rattle.kc_tally.proofs.Certifying.{agreed-core_numbers}
use Rattle.kc_tally.proofs.sums_that_agree_show_core_numbers.Goals as goal

pub returns : goal.returns
returns c = λ core rank pieces later supporters short once apart few enough agree.
    agreed-core_numbers core rank (edges_of_pieces pieces) (once-pieces (length core) pieces once apart) later supporters short
    (tally-pieces core rank pieces later supporters agree.later_each agree.supporters_each few enough) agree
