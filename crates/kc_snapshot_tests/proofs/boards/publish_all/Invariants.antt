-- So many lists were published, all of four vertices.
use Rattle.std.proofs.Common.{◌≡◌, length}
use Rattle.kc_snapshot.specs.Histories.{width}
use Rattle.kc_snapshot_tests.proofs.boards.publish_all.Given as goal

abbrev pub invariant-loop-number : goal.invariant-loop-number
invariant-loop-number g l = (length l.publisher ≡ l.number) × (width l.publisher ≡ 4)
