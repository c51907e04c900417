-- The bytes before `len` are a run of so many lines, and the bits tell the gaps behind them.
use Rattle.std.proofs.Common.{◌-◌, drop, length}
use Rattle.kc_dialect.specs.Gaps.{AreGaps}
use Rattle.kc_dialect.specs.PlainRuns.{BeginsWithRun}
use Rattle.kc_dialect.proofs.plain_runs.block_run.Given as goal

abbrev pub invariant-loop-more : goal.invariant-loop-more
invariant-loop-more l = record {
  run : BeginsWithRun l.separator l.bytes l.len l.lines;
  behind : AreGaps (drop l.len l.bytes) l.gaps;
}

abbrev pub decreases-loop-more : goal.decreases-loop-more
decreases-loop-more l = length l.bytes - l.len
