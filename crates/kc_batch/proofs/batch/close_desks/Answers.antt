-- The first of the desks that are left gives its worker back, and a share.
use Rattle.std.proofs.Common.{◌∙◌, ◌∷◌, [], List, ap, arith, length, map}
use Rattle.std.proofs.lemmas.List.{map-append}
use Rattle.std.specs.Vec.Iter.{into_iter_items}
use Rattle.kc_workers.specs.declared.share.WorkerShare.{WorkerShare}
use Rattle.kc_batch.specs.Desks.{Desked, untold_of}
use Rattle.kc_batch.proofs.Lists.{numbered-more}
use Rattle.kc_batch.proofs.Rounding.{next-image}
use Rattle.kc_batch.proofs.batch.close_desks.Goals as goal

pub loop-desk-preserved : goal.loop-desk-preserved
loop-desk-preserved c =
    let at = c.loop-desk.invariant in
    let k = c.in-Some.ensures.steps in
    let d : Desked = c.in-Some.desk in
    let old : List Desked = into_iter_items c.loop-desk.desk-iterator in
    let rest : List Desked = into_iter_items c.next.new.self in
    let short = ap (λ (z : List Desked). length z) k.0 in
    let shares = c.loop-desk.shares.items in
    let pushed = c.push_reserved-in-loop-desk.ensures.items in
    let work = λ (s : WorkerShare). s.done.items in
    let late = λ (s : WorkerShare). s.untold in
    record {
      workers = next-image (λ (e : Desked). e.seen) c.loop-desk.workers.items c.push_reserved.new.self.items old rest d _ k.0
          (ap (λ (e : Desked). e.seen) c.desk.view_is) c.push_reserved.ensures.items ∙ at.workers;
      done = next-image (λ (e : Desked). e.work.done) (map work shares) (map work c.push_reserved-in-loop-desk.new.self.items) old rest d _ k.0
          (ap (λ (e : Desked). e.work.done) c.desk.view_is) (ap (map work) pushed ∙ map-append work shares (_ ∷ [])) ∙ at.done;
      untold = next-image (λ (e : Desked). untold_of e.work.left) (map late shares) (map late c.push_reserved-in-loop-desk.new.self.items) old rest d _ k.0
          (c.untold.ensures ∙ ap (λ (e : Desked). untold_of e.work.left) c.desk.view_is) (ap (map late) pushed ∙ map-append late shares (_ ∷ [])) ∙ at.untold;
      long = omega (arith, at.long, short, k.1);
      count = omega (arith, at.count, k.1);
      room = omega (arith, at.room, k.1);
      room_for_shares = omega (arith, at.room_for_shares, k.1);
      numbered = numbered-more (λ (s : WorkerShare). s.worker) shares c.push_reserved-in-loop-desk.new.self.items _ pushed (omega arith) at.numbered;
    }
