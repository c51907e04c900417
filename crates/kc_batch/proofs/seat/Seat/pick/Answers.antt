-- What is kept, or is taken of the line and kept from then on, is counted as it was.
use Rattle.std.proofs.Common.{◌≡◌, ℕ, IfNone, Option, rules, subst, sym}
use Rattle.kc_batch.specs.Seats.{Seated, WorksOn}
use Rattle.kc_batch.specs.declared.left.Left.TheVariants.{Nothing}
use Rattle.kc_batch.proofs.Working.{left-nothing, picked-next, picked-none, picks-kept, seat-is}
use Rattle.kc_batch.proofs.seat.Seat.pick.Goals as goal

pub returns-in-Kept-clause-works : goal.returns-in-Kept-clause-works
returns-in-Kept-clause-works g c =
    subst (λ (s : Seated). WorksOn g.K.Name.opened g.K.Name.log c.args.turns.now c.args.self.now s) (sym (seat-is c.desk.view_is c.self.view_is))
    (picks-kept _ _ _ _ _ _ c.requires.ready.legal)

pub returns-in_err-place : goal.returns-in_err-place
returns-in_err-place g c = record {
  works = picked-none (seat-is c.desk.view_is c.self.view_is) c.requires.ready c.in_err-place.ensures.none;
  kept = search rules;
  below = search rules;
  none = subst (λ (r : Option ℕ). IfNone r (c.desk.inside.left ≡ Nothing)) (sym c.from_residual.ensures)
      (left-nothing (seat-is c.desk.view_is c.self.view_is) c.requires.ready c.in_default.not-Kept);
}

pub returns : goal.returns
returns g c = record {
  works = picked-next (seat-is c.desk.view_is c.self.view_is) c.requires.ready
      (left-nothing (seat-is c.desk.view_is c.self.view_is) c.requires.ready c.in_default.not-Kept)
      c.in_ok-place.ensures.same c.in_ok-place.ensures.taken;
  kept = search rules;
  below = search rules;
  none = tt;
}
