-- The line is the one that is left among the lines of what is left.
use Rattle.std.proofs.Common.{◌≡◌, length}
use Rattle.kc_text.specs.Lines.{lines}
use Rattle.kc_head.specs.Places.{line_at, line_in}
use Rattle.kc_head.proofs.places.line_in.Given as goal

abbrev pub invariant-loop-line : goal.invariant-loop-line
invariant-loop-line l = record { same : line_in l.head l.number ≡ line_at l.left (lines l.rest) }

abbrev pub decreases-loop-line : goal.decreases-loop-line
decreases-loop-line l = length l.rest
