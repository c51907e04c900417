-- The lines before the rest were read.
use Rattle.std.proofs.Common.{◌≡◌, ◌≤◌, ◌+◌, ℕ, List, ◌++◌, length}
use Rattle.kc_text.specs.Lines.{lines}
use Rattle.kc_dialect.specs.Steps.{TookLines}
use Rattle.kc_dialect.proofs.line_rewriter.LineRewriter.read.Given as goal

abbrev pub invariant-loop-line : goal.invariant-loop-line
invariant-loop-line l = record {
  done : (read : List (List ℕ)) × TookLines l.fn.self l.self l.fn.out.items l.out.items read × (read ++ lines l.rest ≡ lines l.fn.bytes);
  few : l.self.lines + length l.rest ≤ l.fn.self.lines + length l.fn.bytes;
  fewer : l.self.skipped.count ≤ l.self.lines;
}

abbrev pub decreases-loop-line : goal.decreases-loop-line
decreases-loop-line l = length l.rest
