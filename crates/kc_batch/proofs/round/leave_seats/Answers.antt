-- The first of the seats that are left gives its desk back behind those before it.
use Rattle.std.proofs.Common.{◌≡◌, ◌∙◌, All, List, ◌++◌, ap, length, subst, sym, arith}
use Rattle.std.proofs.lemmas.List.Elements.{All-head, All-push, All-tail}
use Rattle.std.specs.Vec.Iter.{into_iter_items}
use Rattle.kc_batch.specs.Desks.{Desked}
use Rattle.kc_queue.specs.Shares.{Consuming}
use Rattle.kc_batch.specs.Seats.{Seated, desk_of}
use Rattle.kc_batch.proofs.Rounding.{next-amount, next-image, next-taken}
use Rattle.kc_batch.proofs.round.leave_seats.Goals as goal

pub join-requires-clause-other : goal.join-requires-clause-other
join-requires-clause-other g c =
    let x : Seated = c.in-Some.seat in
    let Mine : Seated → Type 0 = λ s. (s.consumer.queue ≡ c.args.queue.now) × (s.consumer.parts ≡ 1) in
    let all = subst (All Mine) c.in-Some.ensures.steps.0 c.loop-seat.invariant.seats in
    ap (λ (s : Seated). s.consumer.queue) c.seat.view_is ∙ (All-head Mine x (into_iter_items c.next.new.self) all).0

pub loop-seat-preserved : goal.loop-seat-preserved
loop-seat-preserved g c =
    let x : Seated = c.in-Some.seat in
    let k = c.in-Some.ensures.steps in
    let at = c.loop-seat.invariant in
    let old : List Seated = into_iter_items c.loop-seat.seat-iterator in
    let rest : List Seated = into_iter_items c.next.new.self in
    let short = ap (λ (z : List Seated). length z) k.0 in
    let Mine : Seated → Type 0 = λ s. (s.consumer.queue ≡ c.args.queue.now) × (s.consumer.parts ≡ 1) in
    let Table : Desked → Type 0 = λ d. d.seen.table ≡ g.K.Name.opened.table in
    let all = subst (All Mine) k.0 at.seats in
    let part : c.seat.inside.consumer.parts ≡ 1 = ap (λ (s : Seated). s.consumer.parts) c.seat.view_is ∙ (All-head Mine x rest all).1 in
    record {
      seats = All-tail Mine x rest all;
      desks = next-image desk_of c.loop-seat.desks.items c.push_reserved.new.self.items old rest x _ k.0
          (ap desk_of c.seat.view_is) c.push_reserved.ensures.items ∙ at.desks;
      table = subst (All Table) (sym c.push_reserved.ensures.items) (All-push Table c.loop-seat.desks.items _ at.table c.seat.invariant.0);
      long = omega (arith, at.long, short, k.1);
      room = omega (arith, at.room, k.1, c.push_reserved.ensures.len);
      parts = omega (arith, at.parts, k.1);
      amount = omega (
        arith,
        at.amount,
        c.merge.ensures.amount,
        next-amount old rest x k.0,
        ap (λ (s : Seated). s.amount) c.seat.view_is,
      );
      queue = ap (λ (k : Consuming). k.queue) c.join.ensures.both ∙ at.queue;
      all = omega (arith, at.all, part, k.1, ap (λ (k : Consuming). k.parts) c.join.ensures.both);
      taken = next-taken c.loop-seat.consumer.taken c.join.new.consumer.taken old rest x k.0
          (ap (λ (k : Consuming). k.taken) c.join.ensures.both ∙ ap (λ (s : Seated). c.loop-seat.consumer.taken ++ s.consumer.taken) c.seat.view_is) ∙ at.taken;
      share = c.join.ensures.share;
    }
