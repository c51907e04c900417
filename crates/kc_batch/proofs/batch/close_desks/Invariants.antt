-- The workers and shares that are given back come before the desks that are left.
use Rattle.std.proofs.Common.{◌≡◌, ◌+◌, ◌++◌, ◌<◌, ◌≤◌, ℕ, length, map, vec_len}
use Rattle.std.specs.Prelude.{slice_index_or, vec_capacity}
use Rattle.std.specs.Vec.Iter.{into_iter_items, into_iter_len}
use Rattle.kc_workers.specs.declared.share.WorkerShare.{WorkerShare}
use Rattle.kc_batch.specs.Desks.{untold_of}
use Rattle.kc_batch.proofs.batch.close_desks.Given as goal

abbrev pub invariant-loop-desk : goal.invariant-loop-desk
invariant-loop-desk l = record {
  workers : l.workers.items ++ map (λ d. d.seen) (into_iter_items l.desk-iterator) ≡ map (λ d. d.seen) (into_iter_items l.initial.desk-iterator);
  done : map (λ s. s.done.items) l.shares.items ++ map (λ d. d.work.done) (into_iter_items l.desk-iterator)
      ≡ map (λ d. d.work.done) (into_iter_items l.initial.desk-iterator);
  untold : map (λ s. s.untold) l.shares.items ++ map (λ d. untold_of d.work.left) (into_iter_items l.desk-iterator)
      ≡ map (λ d. untold_of d.work.left) (into_iter_items l.initial.desk-iterator);
  long : into_iter_len l.desk-iterator ≡ length (into_iter_items l.desk-iterator);
  count : vec_len l.shares + into_iter_len l.desk-iterator ≡ into_iter_len l.initial.desk-iterator;
  room : vec_len l.workers + into_iter_len l.desk-iterator ≤ vec_capacity l.workers;
  room_for_shares : vec_len l.shares + into_iter_len l.desk-iterator ≤ vec_capacity l.shares;
  numbered : (i : ℕ) (d : WorkerShare) → i < length l.shares.items → (slice_index_or l.shares.items i d).worker ≡ i;
}
