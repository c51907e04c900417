-- Where the count ends below the level the whole list was looked at, so that the vertex falls; else it stays.
use Rattle.std.proofs.Common.{ℕ, List, sym, subst, arith}
use Rattle.kc_view.proofs.Keeping.{still_has_list, same_list, answers-agreed, list-true}
use Rattle.kc_remove.specs.Visits.{IsBound}
use Rattle.kc_remove.proofs.Listed.{looked-all}
use Rattle.kc_remove.proofs.Stepping.{counted-falls}
use Rattle.kc_remove.proofs.Tidy.{settled-tidy}
use Rattle.kc_remove.proofs.falling.Falling.count_on.Goals as goal

pub returns-clause-tidy : goal.returns-clause-tidy
returns-clause-tidy g c =
    let r = c.requires in
    let e = c.look_on.ensures.goes_on in
    let o = c.in_ok-found.ensures in
    settled-tidy _ _ _ _ _ _ _ o.tidy c.in_ok-settle.ensures (omega (arith, r.vertex, e.lasts.same_size)) (still_has_list _ _ _ e.further r.read) r.out
    (subst (λ (row : List ℕ). IsBound row c.in_ok-found.found.looked c.in_ok-found.found.bound) (sym (same_list _ _ _ e.further r.read)) o.looked)

pub returns-clause-falls : goal.returns-clause-falls
returns-clause-falls g c = λ s turn part later a lvl is when falls same came.
    let o = c.in_ok-found.ensures in
    let row = list-true _ s c.args.y.vertex (answers-agreed _ _ s c.look_on.ensures.goes_on.further a) c.requires.read in
    counted-falls c.args.search.update c.args.search.level s turn c.args.y.turns part later c.args.y.vertex _ _ _ c.in_ok-settle.ensures
    c.requires.out (record { here = row.0; level = lvl }) (o.told s a (λ x m. (falls.fall_level x m).level) is) when
    (λ low. looked-all c.args.search.update s c.args.y.vertex _ _ _ row.1 o.looked (o.all low)) falls same came
