-- The bytes before `b` are spaced, and the others are as they were.
use Rattle.std.proofs.Common.{◌≡◌}
use Rattle.kc_dialect.proofs.Spacing.{spaced_before}
use Rattle.kc_dialect.proofs.plain_runs.space_out.Given as goal

abbrev pub invariant-loop-b : goal.invariant-loop-b
invariant-loop-b l = l.bytes ≡ spaced_before l.separator l.initial.bytes l.b-index
