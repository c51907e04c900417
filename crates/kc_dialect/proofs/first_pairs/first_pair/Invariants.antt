-- The first pair is that of what is left, behind the lines that told none.
use Rattle.std.proofs.Common.{◌≡◌, ◌+◌, ◌≤◌, length}
use Rattle.kc_dialect.specs.FirstPairs.{first_pair, first_pair_after}
use Rattle.kc_text.specs.Lines.{lines}
use Rattle.kc_dialect.proofs.first_pairs.first_pair.Given as goal

abbrev pub invariant-loop-line : goal.invariant-loop-line
invariant-loop-line l = record {
  same : first_pair l.dialect l.bytes ≡ first_pair_after l.dialect l.before (lines l.rest);
  few : l.before + length l.rest ≤ length l.bytes;
}

abbrev pub decreases-loop-line : goal.decreases-loop-line
decreases-loop-line l = length l.rest
