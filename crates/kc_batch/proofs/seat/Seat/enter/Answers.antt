-- Whatever becomes of the update, it is counted as it was.
use Rattle.std.proofs.Common.{◌≡◌, ◌∙◌, ap, get_or}
use Rattle.std.proofs.lemmas.List.{get_or_default}
use Rattle.kc_batch.specs.Seats.{Seated}
use Rattle.kc_batch.proofs.Working.{IsTried, seat-is, tried-spent, update-dropped, update-tried}
use Rattle.kc_batch.proofs.seat.Seat.enter.Given.{Over}
use Rattle.kc_batch.proofs.seat.Seat.enter.Goals.{After-note}
use Rattle.kc_batch.proofs.seat.Seat.enter.Goals as goal

-- the seat as its parts are read
abbrev seat-read : (g : Over) (c : After-note g) → Seated
seat-read g c = record {
  seen = c.desk.inside.worker;
  work = record { done = c.desk.inside.done.items; left = c.desk.inside.left };
  amount = c.self.inside.part.amount;
  consumer = c.self.inside.consumer;
  number = c.self.inside.number;
}

-- it is the seat that there was
seat-now : (g : Over) (c : After-note g) → seat-read g c ≡ c.args.self.now
seat-now g c = seat-is c.desk.view_is c.self.view_is

pub returns-then-is_err-clause-works : goal.returns-then-is_err-clause-works
returns-then-is_err-clause-works g c =
    update-dropped (seat-is c.desk.view_is c.self.view_is) c.requires.ready c.requires.kept c.reserve.ensures.items

-- what became of the update, as it is noted
was-tried : (g : Over) (c : After-note g) → let n = g.K.Name in let b = c.args.turns.now.batch in
    IsTried n.opened b.first b.updates.now (seat-read g c) c.args.place c.update-outcome.new.worker
    c.update-outcome.new.part.amount (record { done = c.note.new.done.items; left = c.note.new.left })
was-tried g c =
    let batch = c.args.turns.now.batch.updates.now in
    let u = c.update-outcome in
    record {
      update = get_or batch c.args.place c.index-batch-place.result;
      outcome = u.result;
      had = c.reserve.new.self.items;
      kept = ap (λ (s : Seated). s.work.left) (seat-now g c) ∙ c.requires.kept;
      is = c.reserve.ensures.items;
      notes = c.note.ensures.noted;
      within = c.requires.place;
      at = get_or_default batch c.args.place c.index-batch-place.result (get_or batch c.args.place c.index-batch-place.result) c.requires.place;
      longer = u.ensures.continues.longer;
      legal = u.ensures.continues.legal;
      entered = u.ensures.done;
      cause = u.ensures.cause;
      counted = u.ensures.amount;
    }

pub returns-clause-works : goal.returns-clause-works
returns-clause-works g c =
    let at = (goal.at.returns-clause-works g c).After-note in
    update-tried (seat-now g at) c.requires.ready (was-tried g at)

pub returns-clause-spent : goal.returns-clause-spent
returns-clause-spent g c = tried-spent (was-tried g (goal.at.returns-clause-spent g c).After-note)
