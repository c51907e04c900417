-- The vertex that comes next is one of the board.
use Rattle.std.proofs.Common.{◌≡◌, ◌<◌}
use Rattle.kc_snapshot.specs.Histories.{width}
use Rattle.bench_snapshot.proofs.boards.add_up.Given as goal

abbrev pub invariant-loop : goal.invariant-loop
invariant-loop g l = (width l.reader ≡ l.vertices) × (l.v < l.vertices)
