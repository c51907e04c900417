-- A last update has no other of its edge behind it.
use Rattle.kc_text.proofs.LastOfEdges.{last-batch, last-names}
use Rattle.kc_text.proofs.laws.the_last_updates_of_edges_are_a_batch.Goals as goal

pub returns : goal.returns
returns c = record { batch = last-batch; each = last-names }
