-- No line so far is wrong, and their edges stand behind those from before the call.
use Rattle.std.proofs.Common.{◌≡◌, ◌≤◌, ◌+◌, ◌++◌, List, ℕ, length}
use Rattle.kc_graph.specs.declared.bulk.Edge.{Edge}
use Rattle.kc_text.specs.Forms.{all_said}
use Rattle.kc_claims.specs.LineFaults.{first_line_fault, last_pair}
use Rattle.kc_claims.specs.Sweeping.{AreToldBy}
use Rattle.kc_text.specs.declared.line.TextLine.{TextLine}
use Rattle.kc_claims.proofs.looking.look.Given as goal

abbrev pub invariant-loop-line : goal.invariant-loop-line
invariant-loop-line l = record {
  first : (done : ℕ) → first_line_fault l.ids done l.fn.before (all_said l.lines) ≡ first_line_fault l.ids (done + l.seen) l.last (all_said l.rest);
  pairs : last_pair l.fn.before (all_said l.lines) ≡ last_pair l.last (all_said l.rest);
  counted : l.seen + length (all_said l.rest) ≡ length (all_said l.lines);
  short : l.seen + length l.rest ≤ length l.lines;
  told : (done : List TextLine) × (told : List Edge) × (all_said l.lines ≡ done ++ all_said l.rest) × AreToldBy l.ids done told
      × (l.edges.items ≡ l.fn.edges.items ++ told);
}

abbrev pub decreases-loop-line : goal.decreases-loop-line
decreases-loop-line l = length l.rest
