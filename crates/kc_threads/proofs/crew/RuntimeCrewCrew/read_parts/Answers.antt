-- Threads are asked where they may share their runtime.
use Rattle.std.proofs.Math.Logic.{∥∥₁_elim}
use Rattle.kc_threads.proofs.Sharing.{sync_prop}
use Rattle.kc_threads.proofs.crew.RuntimeCrewCrew.read_parts.Goals as goal

pub read_parts_in-requires-sync-R : goal.read_parts_in-requires-sync-R
read_parts_in-requires-sync-R g c κs within = ∥∥₁_elim c.requires.shareable (sync_prop _) (λ s. s)
