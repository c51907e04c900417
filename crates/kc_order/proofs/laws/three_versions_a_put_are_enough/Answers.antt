-- Put by put: each takes at most two versions of each word.
use Rattle.kc_order.proofs.Running.{room-highest, room-run}
use Rattle.kc_order.proofs.laws.three_versions_a_put_are_enough.Goals as goal

pub returns-clause-run : goal.returns-clause-run
returns-clause-run c = room-run

pub returns-clause-highest : goal.returns-clause-highest
returns-clause-highest c = room-highest
