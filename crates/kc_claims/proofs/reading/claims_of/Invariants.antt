-- The claims of the lines so far, with those of the rest, are the claims of all lines.
use Rattle.std.proofs.Common.{◌≡◌, ◌≤◌, ◌+◌, length}
use Rattle.kc_text.specs.Lines.{lines}
use Rattle.kc_claims.specs.Claims.{behind_claims, claims_after}
use Rattle.kc_claims.proofs.reading.claims_of.Given as goal

abbrev pub invariant-loop-first : goal.invariant-loop-first
invariant-loop-first l = record {
  joined : behind_claims l.claims.items (claims_after l.line (lines l.rest)) ≡ claims_after 0 (lines l.text);
  room : l.line + length l.rest ≤ length l.text;
}

abbrev pub decreases-loop-first : goal.decreases-loop-first
decreases-loop-first l = length l.rest
