-- The bytes before `len` are a run of so many lines.
use Rattle.std.proofs.Common.{◌-◌, length}
use Rattle.kc_dialect.specs.PlainRuns.{BeginsWithRun}
use Rattle.kc_dialect.proofs.plain_runs.last_run.Given as goal

abbrev pub invariant-loop-more : goal.invariant-loop-more
invariant-loop-more l = BeginsWithRun l.separator l.bytes l.len l.lines

abbrev pub decreases-loop-more : goal.decreases-loop-more
decreases-loop-more l = length l.bytes - l.len
