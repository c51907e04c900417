-- The places that the numbers so far are told are where they stand.
use Rattle.std.proofs.Common.{◌≡◌, ◌<◌, ℕ, Some, length}
use Rattle.kc_graph.specs.Peeling.{at}
use Rattle.kc_claims.specs.IdBits.{place_by}
use Rattle.kc_claims.proofs.id_bits.IdBits.tells_no_other.Given as goal

abbrev pub invariant-loop-number : goal.invariant-loop-number
invariant-loop-number l = (id v : ℕ) → id < l.number → place_by l.self.words.items l.self.ends.items id ≡ Some v
    → (v < length l.ids) × (at l.ids v ≡ id)
