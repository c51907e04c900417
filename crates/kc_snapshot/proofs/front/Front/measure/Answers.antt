-- All lists of a history are of the same vertices.
use Rattle.kc_snapshot.proofs.Lists.{last_list-wide}
use Rattle.kc_snapshot.proofs.front.Front.measure.Goals as goal

pub returns : goal.returns
returns g c = rw (← c.self.view_is) (last_list-wide c.self.inside.seen.log c.self.invariant.2)
