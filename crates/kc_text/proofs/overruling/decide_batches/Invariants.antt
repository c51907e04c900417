-- For each batch so far there are the last updates of its edges, and the count of those that are not.
use Rattle.std.proofs.Common.{◌≡◌, take, map}
use Rattle.kc_text.specs.Deciding.{last_batch}
use Rattle.kc_text.specs.Inputs.{parts_of_batch}
use Rattle.kc_text.proofs.overruling.decide_batches.Given as goal

abbrev pub invariant-loop-batch : goal.invariant-loop-batch
invariant-loop-batch l = map parts_of_batch l.decided.items ≡ map (λ batch. last_batch batch.items) (take l.batch-index l.batches)
