-- The claims of the vertices so far stand at their places.
use Rattle.std.proofs.Common.{◌≡◌, ◌<◌, List, length, ℕ}
use Rattle.kc_graph.specs.Peeling.{at}
use Rattle.kc_claims.specs.Certificates.{claim_at}
use Rattle.kc_claims.specs.Judging.{AreCounted}
use Rattle.kc_claims.specs.declared.claim.Claim.{Claim}
use Rattle.kc_claims.proofs.judging.claims_of.Given as goal

abbrev pub invariant-loop-v : goal.invariant-loop-v
invariant-loop-v l = record {
  size : length l.told.items ≡ length l.sweep.core.items;
  stand : (claims : List Claim) (order : List ℕ) → AreCounted claims order l.sweep l.lines → (i : ℕ) → i < length claims → at order i < l.v
      → claim_at l.told.items i ≡ claim_at claims i;
}
