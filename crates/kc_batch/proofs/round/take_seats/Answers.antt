-- The first of the desks that are left is seated behind those before it.
use Rattle.std.proofs.Common.{◌≡◌, ◌∙◌, All, ap, length, refl, subst, sym, arith, append-nil, List}
use Rattle.std.proofs.lemmas.List.Elements.{All-push, All-tail}
use Rattle.std.specs.Vec.Iter.{drain_items}
use Rattle.kc_queue.specs.Shares.{Consuming}
use Rattle.kc_batch.specs.Desks.{Desked}
use Rattle.kc_batch.specs.Seats.{IsFreshSeat, Seated}
use Rattle.kc_batch.proofs.Lists.{numbered-more}
use Rattle.kc_batch.proofs.Rounding.{next-seat}
use Rattle.kc_batch.proofs.round.take_seats.Goals as goal

pub loop-desk-preserved : goal.loop-desk-preserved
loop-desk-preserved g c =
    let d : Desked = c.in-Some.desk in
    let k = c.in-Some.ensures.steps in
    let at = c.loop-desk.invariant in
    let rest : List Desked = drain_items c.next.new.self in
    let short = ap (λ (z : List Desked). length z) k.0 in
    let Mine : Desked → Type 0 = λ d. d.seen.table ≡ g.K.Name.opened.table in
    let fresh = All-push (IsFreshSeat c.args.queue.now) c.loop-desk.seats.items _ at.fresh
    (record { consumer = c.split-own.ensures.result; amount = c.split_off.ensures.amount }) in
    record {
      drains = (k.2.0 ∙ at.drains.0, k.2.1 ∙ at.drains.1, k.2.2 ∙ at.drains.2);
      table = All-tail Mine d rest (subst (All Mine) k.0 at.table);
      seated = next-seat (drain_items c.loop-desk.desk-iterator) rest d c.loop-desk.seats.items c.push_reserved.new.self.items _ k.0 refl
          c.push_reserved.ensures.items ∙ at.seated;
      fresh = subst (All (IsFreshSeat c.args.queue.now)) (sym c.push_reserved.ensures.items) fresh;
      numbered = numbered-more (λ (s : Seated). s.number) c.loop-desk.seats.items c.push_reserved.new.self.items _ c.push_reserved.ensures.items (omega arith)
          at.numbered;
      long = omega (arith, at.long, short, k.1);
      count = omega (arith, at.count, k.1, c.push_reserved.ensures.len);
      room = omega (arith, at.room, k.1, c.push_reserved.ensures.len);
      spare = omega (arith, at.spare, k.1, ap (λ (k : Consuming). k.parts) c.split-own.ensures.left);
      queue = ap (λ (k : Consuming). k.queue) c.split-own.ensures.left ∙ at.queue;
      left = omega (arith, at.left, at.spare, k.1, c.push_reserved.ensures.len, ap (λ (k : Consuming). k.parts) c.split-own.ensures.left);
      taken = ap (λ (k : Consuming). k.taken) c.split-own.ensures.left ∙ at.taken;
      parts = omega (arith, at.parts, k.1);
      amount = omega (arith, at.amount);
    }
