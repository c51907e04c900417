-- The indices so far are those of the batch.
use Rattle.std.proofs.Common.{ℕ, ◌<◌, ◌≤◌, get_or}
use Rattle.kc_batch_effects.specs.declared.outcome.Outcome.{Outcome}
use Rattle.kc_journal_tests.proofs.counts.counted.Given as goal

abbrev pub invariant-loop-outcome : goal.invariant-loop-outcome
invariant-loop-outcome g l =
    (k : ℕ) (d : Outcome) → k < l.outcome-index → (10 ≤ (get_or l.outcomes k d).index) × ((get_or l.outcomes k d).index < 15)
