-- Workers are asked where threads may share their runtime.
use Rattle.std.proofs.Math.Logic.{∥∥₁_elim}
use Rattle.kc_threads.proofs.Sharing.{sync_prop}
use Rattle.kc_keeper_workers.proofs.workforce.RuntimeThreadsWorkforce.apply_with.Goals as goal

pub apply_with-requires-sync-R : goal.apply_with-requires-sync-R
apply_with-requires-sync-R g c κs within = ∥∥₁_elim c.requires.shareable (sync_prop _) (λ s. s)
