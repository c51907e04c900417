-- The worker has worked, and may go on.
use Rattle.std.proofs.Common.{◌≡◌, length}
use Rattle.kc_batch.specs.Seats.{CanGoOn, WorksOn}
use Rattle.kc_batch.proofs.seat.Seat.work.Given as goal

abbrev pub invariant-loop : goal.invariant-loop
invariant-loop g l =
    let o = g.K.Name.opened in record {
      works : WorksOn o g.K.Name.log l.turns l.fn.self l.self;
      ready : CanGoOn o g.K.Name.log (length l.turns.batch.updates.now) l.self;
      queue : l.self.consumer.queue ≡ l.turns.queue;
    }
