-- No level above is left.
use Rattle.std.proofs.Common.{◌<◌, ◌≤◌, ℕ, length, slice_index}
use Rattle.std.specs.Prelude.{max}
use Rattle.kc_levels.proofs.levels.top_after.Given as goal

abbrev pub invariant-loop-top : goal.invariant-loop-top
invariant-loop-top l = record {
  within : l.top < length l.core;
  most : (w : ℕ) → w < length l.core → slice_index l.core w ≤ max l.top (slice_index l.core l.v);
}

abbrev pub decreases-loop-top : goal.decreases-loop-top
decreases-loop-top l = l.top
