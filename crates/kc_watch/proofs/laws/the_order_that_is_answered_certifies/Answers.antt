-- It is the order by core number, layer and id.
use Rattle.kc_watch.proofs.Ordered.{answered-order}
use Rattle.kc_watch.proofs.laws.the_order_that_is_answered_certifies.Goals as goal

pub returns : goal.returns
returns c = answered-order
