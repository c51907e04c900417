-- The locks so far and the stripes that are left, which are K's, are all together, and the stripes leave their memory behind.
use Rattle.std.proofs.Common.{◌≡◌, ◌≤◌, ◌+◌, [], length, vec_len}
use Rattle.std.specs.Prelude.{All}
use Rattle.std.specs.Vec.Iter.{drain_capacity, drain_items, drain_kept}
use Rattle.kc_stripes.specs.declared.stripe.TheConstants.{STRIPES}
use Rattle.kc_stripes.proofs.stripes.Stripes.new.Given as goal

abbrev pub invariant-loop-stripe : goal.invariant-loop-stripe
invariant-loop-stripe g l =
    All (λ s. s.opened ≡ g.K.Name.opened) (drain_items l.stripe-iterator)
    × (vec_len l.locks + length (drain_items l.stripe-iterator) ≡ STRIPES) × (STRIPES ≤ l.locks.cap)
    × (drain_kept l.stripe-iterator ≡ []) × (STRIPES ≤ drain_capacity l.stripe-iterator)
