-- The desks that are taken back come before the seats that are left.
use Rattle.std.proofs.Common.{◌≡◌, ◌+◌, ◌++◌, ◌≤◌, length, vec_len, map}
use Rattle.std.specs.Prelude.{All, vec_capacity}
use Rattle.std.specs.Vec.Iter.{into_iter_items, into_iter_len}
use Rattle.kc_queue.specs.Shares.{IsShare}
use Rattle.kc_batch.specs.Seats.{all_taken, amounts, desk_of}
use Rattle.kc_batch.proofs.round.leave_seats.Given as goal

abbrev pub invariant-loop-seat : goal.invariant-loop-seat
invariant-loop-seat g l = record {
  seats : All (λ s. (s.consumer.queue ≡ l.queue) × (s.consumer.parts ≡ 1)) (into_iter_items l.seat-iterator);
  desks : l.desks.items ++ map desk_of (into_iter_items l.seat-iterator) ≡ map desk_of (into_iter_items l.initial.seat-iterator);
  table : All (λ d. d.seen.table ≡ g.K.Name.opened.table) l.desks.items;
  long : into_iter_len l.seat-iterator ≡ length (into_iter_items l.seat-iterator);
  room : vec_len l.desks + into_iter_len l.seat-iterator ≤ vec_capacity l.desks;
  parts : l.part.parts + into_iter_len l.seat-iterator ≡ l.initial.part.parts + into_iter_len l.initial.seat-iterator;
  amount : l.part.amount + amounts (into_iter_items l.seat-iterator) ≡ l.initial.part.amount + amounts (into_iter_items l.initial.seat-iterator);
  queue : l.consumer.queue ≡ l.queue;
  all : l.consumer.parts + into_iter_len l.seat-iterator ≡ l.initial.consumer.parts + into_iter_len l.initial.seat-iterator;
  taken : l.consumer.taken ++ all_taken (into_iter_items l.seat-iterator)
      ≡ l.initial.consumer.taken ++ all_taken (into_iter_items l.initial.seat-iterator);
  share : IsShare l.queue.count l.consumer.taken;
}
