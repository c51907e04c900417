-- The certificate holds at each vertex that was seen, and at each of the first `i` neighbours of `x`.
use Rattle.std.proofs.Common.{◌<◌, ℕ, get_or, nat_eq}
use Rattle.std.specs.HashSet.{contains}
use Rattle.kc_graph.specs.Neighbours.{neighbours_of}
use Rattle.kc_cert.specs.Local.{HoldsAt}
use Rattle.kc_cert.specs.Looks.{HoldWhereSeen}
use Rattle.kc_cert.specs.Stands.{changed_by}
use Rattle.kc_cert.proofs.local.look_around.Given as goal

abbrev pub invariant-loop-i : goal.invariant-loop-i
invariant-loop-i g l = record {
  seen : HoldWhereSeen (contains nat_eq l.seen) (changed_by l.update l.arrangement.moves.now (g.S.State.state l.state));
  beside : (k : ℕ) → k < l.i
      → HoldsAt (changed_by l.update l.arrangement.moves.now (g.S.State.state l.state))
      (get_or (neighbours_of (g.S.State.state l.state).graph l.x) k 0);
}
