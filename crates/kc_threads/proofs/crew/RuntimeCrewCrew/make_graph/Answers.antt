-- Threads are asked where they may share their runtime.
use Rattle.std.proofs.Math.Logic.{∥∥₁_elim}
use Rattle.kc_threads.proofs.Sharing.{sync_prop}
use Rattle.kc_threads.proofs.crew.RuntimeCrewCrew.make_graph.Goals as goal

pub from_pairs_in-requires-sync-R : goal.from_pairs_in-requires-sync-R
from_pairs_in-requires-sync-R g c κs within = ∥∥₁_elim c.requires.shareable (sync_prop _) (λ s. s)
