-- The lines so far were taken, behind any that came before.
use Rattle.std.proofs.Common.{◌≡◌, ◌++◌, ℕ, List, None, length}
use Rattle.kc_text.specs.Lines.{lines}
use Rattle.kc_claims.proofs.Gathered.{HaveCome}
use Rattle.kc_claims.proofs.gathering.Gathering.gather.Given as goal

abbrev pub invariant-loop-line : goal.invariant-loop-line
invariant-loop-line l = record {
  fresh : l.self.refusal ≡ None;
  taken : (more : List (List ℕ)) × (lines l.lines ≡ more ++ lines l.rest) × HaveCome l.fn.self l.self more;
}

abbrev pub decreases-loop-line : goal.decreases-loop-line
decreases-loop-line l = length l.rest
