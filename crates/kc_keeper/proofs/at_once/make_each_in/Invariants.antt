-- Those before the present update are made in the graph and told of.
use Rattle.kc_keeper.proofs.InTurn.{MadeIn}
use Rattle.kc_keeper.proofs.at_once.make_each_in.Given as goal

abbrev pub invariant-loop-update : goal.invariant-loop-update
invariant-loop-update l = MadeIn l.fn.graph l.updates l.update-index l.graph l.changes
