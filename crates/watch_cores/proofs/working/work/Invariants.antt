-- So many batches were worked off, and the lists are of the graph's vertices.
use Rattle.std.proofs.Common.{◌≡◌, ◌+◌, length}
use Rattle.kc_snapshot.specs.Histories.{width}
use Rattle.watch_cores.proofs.working.work.Given as goal

abbrev pub invariant-loop-batch : goal.invariant-loop-batch
invariant-loop-batch g l = record {
  published : length l.publisher ≡ l.batch-index + 1;
  size : l.graph.size ≡ l.fn.graph.size;
  shown : width l.publisher ≡ l.graph.size;
  seen : width l.told ≡ l.graph.size;
}
