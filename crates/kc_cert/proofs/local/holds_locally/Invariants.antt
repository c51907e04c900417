-- The certificate holds at each vertex that was seen, and at and around each of the moved vertices so far.
use Rattle.std.proofs.Common.{◌<◌, ℕ, get_or, nat_eq}
use Rattle.std.specs.HashSet.{contains}
use Rattle.kc_cert.specs.Looks.{HoldWhereSeen, HoldsAround}
use Rattle.kc_cert.specs.Stands.{changed_by}
use Rattle.kc_cert.proofs.local.holds_locally.Given as goal

abbrev pub invariant-loop-x : goal.invariant-loop-x
invariant-loop-x g l = record {
  seen : HoldWhereSeen (contains nat_eq l.seen) (changed_by l.update l.arrangement.moves.now (g.S.State.state l.state));
  around : (k : ℕ) → k < l.x-index
      → HoldsAround (g.S.State.state l.state).graph (changed_by l.update l.arrangement.moves.now (g.S.State.state l.state))
      (get_or l.moved k 0);
}
