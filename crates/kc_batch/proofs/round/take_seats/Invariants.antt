-- Those that are seated come before the desks that are left.
use Rattle.std.proofs.Common.{◌≡◌, ◌+◌, ◌++◌, ◌<◌, ◌≤◌, ℕ, length, vec_len, map}
use Rattle.std.specs.Prelude.{All, slice_index_or, vec_capacity}
use Rattle.std.specs.Vec.Iter.{DrainKeeps, drain_items, drain_len}
use Rattle.kc_batch.specs.Seats.{IsFreshSeat, Seated, desk_of}
use Rattle.kc_batch.proofs.round.take_seats.Given as goal

abbrev pub invariant-loop-desk : goal.invariant-loop-desk
invariant-loop-desk g l = record {
  drains : DrainKeeps l.initial.desk-iterator l.desk-iterator;
  table : All (λ d. d.seen.table ≡ g.K.Name.opened.table) (drain_items l.desk-iterator);
  seated : map desk_of l.seats.items ++ drain_items l.desk-iterator ≡ drain_items l.initial.desk-iterator;
  fresh : All (IsFreshSeat l.queue) l.seats.items;
  numbered : (i : ℕ) (d : Seated) → i < length l.seats.items → (slice_index_or l.seats.items i d).number ≡ i;
  long : drain_len l.desk-iterator ≡ length (drain_items l.desk-iterator);
  count : vec_len l.seats + drain_len l.desk-iterator ≡ drain_len l.initial.desk-iterator;
  room : vec_len l.seats + drain_len l.desk-iterator ≤ vec_capacity l.seats;
  spare : drain_len l.desk-iterator < l.consumer.parts;
  queue : l.consumer.queue ≡ l.queue;
  left : l.consumer.parts + vec_len l.seats ≡ l.initial.consumer.parts;
  taken : l.consumer.taken ≡ l.initial.consumer.taken;
  parts : l.part.parts ≡ drain_len l.desk-iterator;
  amount : l.part.amount ≡ 0;
}
