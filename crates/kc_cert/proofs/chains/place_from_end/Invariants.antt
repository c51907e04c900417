-- The place is in the line and not before that of `w`, and falls with each turn.
use Rattle.std.proofs.Common.{◌<◌, ◌≤◌, length}
use Rattle.kc_lists.specs.Lists.{place_of}
use Rattle.kc_cert.proofs.chains.place_from_end.Given as goal

abbrev pub invariant-loop-place : goal.invariant-loop-place
invariant-loop-place l = (l.place < length l.line) × (place_of l.w l.line ≤ l.place)

abbrev pub decreases-loop-place : goal.decreases-loop-place
decreases-loop-place l = l.place
