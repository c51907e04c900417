-- All vertices so far are marked.
use Rattle.std.proofs.Common.{◌≡◌, ◌<◌, ℕ, true}
use Rattle.kc_claims.specs.Taking.{is_marked}
use Rattle.kc_claims.proofs.taking.first_unmarked.Given as goal

abbrev pub invariant-loop-v : goal.invariant-loop-v
invariant-loop-v l = (u : ℕ) → u < l.v → is_marked l.named u ≡ true
