-- What the steps so far skip.
use Rattle.std.proofs.Common.{◌≡◌, take}
use Rattle.kc_text.specs.TellingLines.{skipped_at}
use Rattle.kc_text.proofs.line_numbers.LineNumbers.skipped_at.Given as goal

abbrev pub invariant-loop-first : goal.invariant-loop-first
invariant-loop-first l = l.skipped ≡ skipped_at (take l.first-index l.self.steps.items) l.place
