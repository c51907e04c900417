-- The vertices of the claims so far are between.
use Rattle.std.proofs.Common.{◌<◌, ℕ}
use Rattle.kc_graph.specs.Peeling.{at}
use Rattle.kc_claims.specs.Certificates.{IsBetween}
use Rattle.kc_claims.proofs.checking.first_miscount.Given as goal

abbrev pub invariant-loop-place : goal.invariant-loop-place
invariant-loop-place l = (i : ℕ) → i < l.place → IsBetween l.graph l.taken.core.items l.taken.rank.items (at l.taken.order.items i)
