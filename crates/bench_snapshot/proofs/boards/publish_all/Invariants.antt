-- So many lists were published, and the next one is of as many vertices.
use Rattle.std.proofs.Common.{◌≡◌, ◌<◌, length}
use Rattle.kc_snapshot.specs.Histories.{width}
use Rattle.bench_snapshot.proofs.boards.publish_all.Given as goal

abbrev pub invariant-loop-number : goal.invariant-loop-number
invariant-loop-number g l = (length l.publisher ≡ l.number) × (0 < length l.list) × (length l.list ≡ width l.publisher)
