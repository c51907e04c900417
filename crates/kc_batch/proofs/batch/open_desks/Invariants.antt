-- Each desk is of a worker that has one already.
use Rattle.std.proofs.Common.{◌≡◌, ◌+◌, ◌≤◌, [], length, vec_len}
use Rattle.std.specs.Prelude.{All, vec_capacity}
use Rattle.std.specs.Vec.Iter.{DrainKeeps, drain_items, drain_len}
use Rattle.kc_table.specs.Log.{TableName}
use Rattle.kc_batch.specs.declared.left.Left.TheVariants.{Nothing}
use Rattle.kc_batch.proofs.batch.open_desks.Given as goal

abbrev pub invariant-loop-worker : goal.invariant-loop-worker
invariant-loop-worker l = record {
  drains : DrainKeeps l.initial.worker-iterator l.worker-iterator;
  long : drain_len l.worker-iterator ≡ length (drain_items l.worker-iterator);
  count : vec_len l.desks + drain_len l.worker-iterator ≡ drain_len l.initial.worker-iterator;
  room : vec_len l.desks + drain_len l.worker-iterator ≤ vec_capacity l.desks;
  table : (t : TableName) → All (λ w. w.table ≡ t) (drain_items l.initial.worker-iterator)
      → All (λ w. w.table ≡ t) (drain_items l.worker-iterator) × All (λ d. d.seen.table ≡ t) l.desks.items;
  nothing : All (λ d. d.work ≡ record { done = []; left = Nothing }) l.desks.items;
}
