-- While there is no room the change is the same, and nothing is kept.
use Rattle.std.proofs.Common.{◌≡◌, length}
use Rattle.left_right.specs.Handles.{pending, published}
use Rattle.kc_snapshot.proofs.publisher.keep.Given as goal

abbrev pub invariant-loop : goal.invariant-loop
invariant-loop g l =
    (goal.iterator-loop g).can_next l.iterator' × (goal.iterator-loop g).is_finite l.iterator'
    × (length (pending l.shown) ≡ 0) × (published l.shown ≡ published l.initial.shown) × (l.change ≡ l.initial.change)
