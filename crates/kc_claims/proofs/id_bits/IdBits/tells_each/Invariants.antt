-- The ids so far are told their places.
use Rattle.std.proofs.Common.{◌≡◌, ◌<◌, ℕ, Some}
use Rattle.kc_graph.specs.Peeling.{at}
use Rattle.kc_claims.specs.IdBits.{place_by}
use Rattle.kc_claims.proofs.id_bits.IdBits.tells_each.Given as goal

abbrev pub invariant-loop-v : goal.invariant-loop-v
invariant-loop-v l = (v : ℕ) → v < l.v → place_by l.self.words.items l.self.ends.items (at l.ids v) ≡ Some v
