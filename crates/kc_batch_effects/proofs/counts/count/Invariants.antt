-- The counts of the outcomes so far.
use Rattle.std.proofs.Common.{◌≡◌, take}
use Rattle.kc_batch_effects.specs.Outcomes.{told_added, told_kept, told_removed}
use Rattle.kc_batch_effects.proofs.counts.count.Given as goal

abbrev pub invariant-loop-outcome : goal.invariant-loop-outcome
invariant-loop-outcome l = record {
  added : l.counts.added ≡ told_added l.first l.batch (take l.outcome-index l.outcomes);
  removed : l.counts.removed ≡ told_removed l.first l.batch (take l.outcome-index l.outcomes);
  kept : l.counts.kept ≡ told_kept (take l.outcome-index l.outcomes);
}
