-- A consumer with more than one part keeps one at least.
use Rattle.std.proofs.Common.{◌<◌, subst, sym}
use Rattle.kc_queue.specs.Shares.{Consuming}
use Rattle.kc_queue.proofs.Steps.{part-forks}
use Rattle.kc_queue.proofs.queue.WorkQueue.split.Goals as goal

pub another-pass-requires-clause-rule : goal.another-pass-requires-clause-rule
another-pass-requires-clause-rule c = part-forks _ _ (subst (λ (k : Consuming). 1 < k.parts) (sym c.consumer.view_is) c.requires.parts)
