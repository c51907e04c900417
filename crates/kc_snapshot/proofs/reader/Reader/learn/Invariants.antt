-- A look that shows less than was seen changes nothing.
use Rattle.std.proofs.Common.{◌≡◌}
use Rattle.kc_snapshot.proofs.reader.Reader.learn.Given as goal

abbrev pub invariant-loop : goal.invariant-loop
invariant-loop g l =
    (goal.iterator-loop g).can_next l.iterator' × (goal.iterator-loop g).is_finite l.iterator'
    × (l.self-inside.seen ≡ l.initial.self-inside.seen)
