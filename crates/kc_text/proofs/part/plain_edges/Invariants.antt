-- The lines before the rest tell the edges so far.
use Rattle.std.proofs.Common.{◌≡◌, ◌++◌, length}
use Rattle.kc_text.specs.Forms.{all_said}
use Rattle.kc_text.specs.TellingLines.{edge_lines}
use Rattle.kc_text.proofs.part.plain_edges.Given as goal

abbrev pub invariant-loop-rest : goal.invariant-loop-rest
invariant-loop-rest l = all_said l.fn.bytes ≡ edge_lines l.edges.items ++ all_said l.rest

abbrev pub decreases-loop-rest : goal.decreases-loop-rest
decreases-loop-rest l = length l.rest
