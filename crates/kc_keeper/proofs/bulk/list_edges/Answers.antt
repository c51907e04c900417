-- The edges from one vertex more are put behind the others.
use Rattle.kc_keeper.proofs.Listing.{more-edges}
use Rattle.kc_keeper.proofs.bulk.list_edges.Goals as goal

pub loop-v-preserved : goal.loop-v-preserved
loop-v-preserved c = more-edges c.neighbours.result.now c.loop-v.invariant c.neighbours.ensures c.in_ok-push_greater.ensures
