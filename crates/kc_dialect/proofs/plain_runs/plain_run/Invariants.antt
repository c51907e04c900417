-- The bytes before `len` are a run of so many lines.
use Rattle.std.proofs.Common.{◌-◌, length}
use Rattle.kc_dialect.specs.PlainRuns.{BeginsWithRun}
use Rattle.kc_dialect.proofs.plain_runs.plain_run.Given as goal

abbrev pub invariant-loop-len : goal.invariant-loop-len
invariant-loop-len l = BeginsWithRun l.separator l.bytes l.len l.lines

abbrev pub decreases-loop-len : goal.decreases-loop-len
decreases-loop-len l = length l.bytes - l.len
