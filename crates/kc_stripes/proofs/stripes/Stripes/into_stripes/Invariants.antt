-- The stripes so far, which are K's, and the locks that are left are all together, and there is room for each stripe.
use Rattle.std.proofs.Common.{◌≡◌, ◌≤◌, ◌+◌, vec_len}
use Rattle.std.specs.Prelude.{All}
use Rattle.std.specs.Vec.Iter.{into_iter_len}
use Rattle.kc_stripes.specs.declared.stripe.TheConstants.{STRIPES}
use Rattle.kc_stripes.proofs.stripes.Stripes.into_stripes.Given as goal

abbrev pub invariant-loop-lock : goal.invariant-loop-lock
invariant-loop-lock g l =
    All (λ s. s.opened ≡ g.K.Name.opened) l.stripes.items
    × (vec_len l.stripes + into_iter_len l.lock-iterator ≡ STRIPES) × (STRIPES ≤ l.stripes.cap)
