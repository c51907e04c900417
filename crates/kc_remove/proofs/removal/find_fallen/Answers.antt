-- The search begins calm with nobody visited; each end of the level is visited and stays so until all turns of the fallen are done.
use Rattle.std.proofs.Common.{◌≡◌, ◌≢◌, ℕ, true, false, List, get_or, eqb, inl, inr, sym, ◌∙◌, ap, subst, arith, eqb-true}
use Rattle.std.specs.Prelude.{is_some}
use Rattle.std.proofs.lemmas.Bool.{or_cases}
use Rattle.kc_view.proofs.Keeping.{GoesOn-trans, answers-agreed}
use Rattle.kc_remove.specs.Cascade.{Cascade, nobody}
use Rattle.kc_remove.specs.Removed.{search_without}
use Rattle.kc_remove.specs.Falling.{is_visited, support_at, has_looked, FallsIn}
use Rattle.kc_remove.proofs.Falls.{unvisited-nobody_fell}
use Rattle.kc_remove.proofs.removal.find_fallen.Goals as goal

pub returns-in_err-take_turns-clause-goes_on : goal.returns-in_err-take_turns-clause-goes_on
returns-in_err-take_turns-clause-goes_on g c =
    GoesOn-trans _ _ _ (GoesOn-trans _ _ _ c.visit_end.ensures.goes_on c.visit_end-2.ensures.goes_on) c.take_turns.ensures.goes_on

pub returns-clause-goes_on : goal.returns-clause-goes_on
returns-clause-goes_on g c =
    GoesOn-trans _ _ _ (GoesOn-trans _ _ _ c.visit_end.ensures.goes_on c.visit_end-2.ensures.goes_on) c.take_turns.ensures.goes_on

pub returns-clause-ended : goal.returns-clause-ended
returns-clause-ended g c = λ s a.
    let f = c.new-falling.result in
    let one = c.visit_end.new.self in
    let two = c.visit_end-2.new.self in
    let second = answers-agreed _ _ s c.take_turns.ensures.goes_on.further a in
    let first = answers-agreed _ _ s c.visit_end-2.ensures.goes_on.further second in
    let u = c.args.search.update.u in
    let v = c.args.search.update.v in
    let none : (y : ℕ) → is_visited f y ≡ false = λ y. ap is_some (c.new-falling.ensures.marks y) in
    let start : FallsIn c.args.search.update c.args.search.level s f 0 nobody =
    subst
    (λ (xs : List ℕ). Cascade (search_without c.args.search.update c.args.search.level s) xs 0 nobody (is_visited f) (support_at f) (has_looked f) nobody)
    (sym c.new-falling.ensures.weak) (unvisited-nobody_fell (search_without c.args.search.update c.args.search.level s)
    (is_visited f) (support_at f) (has_looked f) none) in
    let falls = c.in_ok-take_turns.ensures.falls s a (c.in_ok-visit_end-2.ensures.falls s second (c.in_ok-visit_end.ensures.falls s first start)) in
    let differ : u ≢ v = λ e. absurd (omega (arith, e, c.args.search.update.ordered)) in
    record {
      falls = falls;
      ends = λ z oz is. c.in_ok-take_turns.ensures.still z (elim (or_cases (eqb z u) (eqb z v) is) [
        | inl e ↦
            let at : z ≡ u = eqb-true z u e in
            let here : is_visited one u ≡ true = c.in_ok-visit_end.ensures.visited s first (ap (λ k. get_or s.core k 0) (sym at) ∙ oz.level) in
            ap (is_visited two) at ∙ (ap is_some (c.in_ok-visit_end-2.ensures.others u differ) ∙ here)
        | inr e ↦
            let at : z ≡ v = eqb-true z v e in
            ap (is_visited two) at ∙ c.in_ok-visit_end-2.ensures.visited s second (ap (λ k. get_or s.core k 0) (sym at) ∙ oz.level)
      ]);
    }
