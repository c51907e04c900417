-- The outcomes of the shares so far.
use Rattle.std.proofs.Common.{◌≡◌, map, take}
use Rattle.kc_batch.specs.Batches.{receipts_in}
use Rattle.kc_run.specs.Outcomes.{outcome_of}
use Rattle.kc_run.proofs.counting.outcomes_of.Given as goal

abbrev pub invariant-loop-share : goal.invariant-loop-share
invariant-loop-share l = l.outcomes.items ≡ map outcome_of (receipts_in (take l.share-index l.shares))
