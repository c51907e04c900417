-- A core number that was told stays told, so both ends have theirs at the end, and the level is the lesser one in every true state.
use Rattle.std.proofs.Common.{◌≡◌, true, [], get_or, refl, sym, ◌∙◌, inl, inr, arith}
use Rattle.kc_view.specs.Answers.{Answers, core_of, has_core}
use Rattle.kc_view.proofs.Keeping.{GoesOn-trans, answers-agreed, core-true, still_has_core, same_core}
use Rattle.kc_insert.proofs.Tidy.{asks-core}
use Rattle.kc_insert.proofs.insertion.find_root.Given.{Over}
use Rattle.kc_insert.proofs.insertion.find_root.Goals.{In_ok-second}
use Rattle.kc_insert.proofs.insertion.find_root.Goals as goal

-- the answers once the first end was asked for
abbrev once_asked : (g : Over) → In_ok-second g → Answers
once_asked g c = (g.V.View.shown c.core_of.new.view).kept

-- the answers once both ends were asked for
abbrev twice_asked : (g : Over) → In_ok-second g → Answers
twice_asked g c = (g.V.View.shown c.core_of-2.new.view).kept

-- once both ends were asked for, both have core numbers, which are those that were told
both_told : (g : Over) (c : In_ok-second g)
    → ((has_core (twice_asked g c) c.args.update.u ≡ true) × (c.in_ok-first.first ≡ core_of (twice_asked g c) c.args.update.u))
    × ((has_core (twice_asked g c) c.args.update.v ≡ true) × (c.in_ok-second.second ≡ core_of (twice_asked g c) c.args.update.v))
both_told g c =
    let further = c.core_of-2.ensures.goes_on.further in
    let told = c.in_ok-first.ensures.told.told in
    let kept = still_has_core (once_asked g c) (twice_asked g c) c.args.update.u further told in
    let same = same_core (once_asked g c) (twice_asked g c) c.args.update.u further told in
    ((kept, c.in_ok-first.ensures.core ∙ sym same), (c.in_ok-second.ensures.told.told, c.in_ok-second.ensures.core))

pub first_end-requires-clause-first : goal.first_end-requires-clause-first
first_end-requires-clause-first g c = (both_told g (goal.at.first_end-requires-clause-first g c).In_ok-second).0

pub first_end-requires-clause-asks : goal.first_end-requires-clause-asks
first_end-requires-clause-asks g c =
    let old : Answers = (g.V.View.shown c.args.view.now).kept in
    let at = (goal.at.first_end-requires-clause-asks g c).In_ok-second in
    let update = c.args.update in
    asks-core update (once_asked g at) (twice_asked g at) [] update.v
    (asks-core update old (once_asked g at) [] update.u c.requires.asks c.in_ok-first.ensures.told (inl refl)) c.in_ok-second.ensures.told (inr (inl refl))

pub returns-clause-goes_on : goal.returns-clause-goes_on
returns-clause-goes_on g c = GoesOn-trans _ _ _ (GoesOn-trans _ _ _ c.core_of.ensures.goes_on c.core_of-2.ensures.goes_on) c.first_end.ensures.goes_on

pub returns-clause-placed : goal.returns-clause-placed
returns-clause-placed g c =
    let at = (goal.at.returns-clause-placed g c).In_ok-second in
    let last : Answers = (g.V.View.shown c.first_end.new.view).kept in
    let further = c.first_end.ensures.goes_on.further in
    let (first, second) = both_told g at in (
      still_has_core (twice_asked g at) last c.args.update.u further first.0,
      still_has_core (twice_asked g at) last c.args.update.v further second.0,
    )

pub returns-clause-level : goal.returns-clause-level
returns-clause-level g c = λ s a.
    let at = (goal.at.returns-clause-level g c).In_ok-second in
    let agrees = answers-agreed (twice_asked g at) _ s c.first_end.ensures.goes_on.further a in
    let (first, second) = both_told g at in
    let one : c.in_ok-first.first ≡ get_or s.core c.args.update.u 0 = first.1 ∙ (core-true (twice_asked g at) s c.args.update.u agrees first.0).1 in
    let two : c.in_ok-second.second ≡ get_or s.core c.args.update.v 0 = second.1 ∙ (core-true (twice_asked g at) s c.args.update.v agrees second.0).1 in
    omega (arith, one, two, c.min-level.ensures)
