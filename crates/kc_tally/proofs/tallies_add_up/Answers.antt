-- Counts of lists one after the other are sums, and sums that stay at the greatest number are joined like others.
use Rattle.kc_tally.proofs.Sums.{tally-none, tally-append, tally-pieces}
use Rattle.kc_tally.proofs.tallies_add_up.Goals as goal

pub returns-clause-none : goal.returns-clause-none
returns-clause-none c = tally-none

pub returns-clause-two : goal.returns-clause-two
returns-clause-two c = tally-append

pub returns-clause-all : goal.returns-clause-all
returns-clause-all c = tally-pieces
