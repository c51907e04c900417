-- Over the edge that goes, of another level, fallen or still to look there, `y` loses nothing; else it is visited now, or has one less.
use Rattle.std.proofs.Common.{◌+◌, take, sym, ◌∙◌, ap, subst, true≢false}
use Rattle.std.specs.Prelude.{is_some}
use Rattle.kc_view.proofs.Keeping.{GoesOn-trans, answers-agreed}
use Rattle.kc_remove.specs.Visits.{IsSupport}
use Rattle.kc_remove.specs.declared.falling.Count.{Count}
use Rattle.kc_remove.proofs.Coming.{told-core, visited-looked, not-looked, neighbour-comes}
use Rattle.kc_remove.proofs.Stepping.{pass-by, one-less, edge-gone}
use Rattle.kc_remove.proofs.Tidy.{tidy-neighbour}
use Rattle.kc_remove.proofs.falling.Falling.come_to.Goals as goal

pub returns-then-joins-clause-falls : goal.returns-then-joins-clause-falls
returns-then-joins-clause-falls g c = λ s row a new' falls.
    pass-by c.args.search.update c.args.search.level s _ c.args.turn.vertex c.args.y row c.args.self.now c.requires.turn c.requires.at
    (λ j oy. absurd (true≢false (sym j ∙ edge-gone c.args.search.update s _ _ (sym c.joins.ensures ∙ c.if-joins.true)))) falls

pub returns-then-core-search-clause-tidy : goal.returns-then-core-search-clause-tidy
returns-then-core-search-clause-tidy g c =
    let r = c.requires in
    tidy-neighbour _ _ _ _ c.args.turn.vertex _ r.tidy c.core_of.ensures.goes_on c.in_ok-core.ensures.told r.read r.neighbour

pub returns-then-core-search-clause-falls : goal.returns-then-core-search-clause-falls
returns-then-core-search-clause-falls g c = λ s row a new' falls.
    let o = c.in_ok-core.ensures in
    pass-by c.args.search.update c.args.search.level s _ c.args.turn.vertex c.args.y row c.args.self.now c.requires.turn c.requires.at
    (λ j oy. absurd (c.if-core-search.true (told-core _ _ s _ _ a o.told o.core ∙ oy.level))) falls

pub visit-requires-clause-tidy : goal.visit-requires-clause-tidy
visit-requires-clause-tidy g c =
    let r = c.requires in
    tidy-neighbour _ _ _ _ c.args.turn.vertex _ r.tidy c.core_of.ensures.goes_on c.in_ok-core.ensures.told r.read r.neighbour

pub returns-in_default-clause-goes_on : goal.returns-in_default-clause-goes_on
returns-in_default-clause-goes_on g c = GoesOn-trans _ _ _ c.core_of.ensures.goes_on c.visit.ensures.goes_on

pub returns-in_default-clause-falls : goal.returns-in_default-clause-falls
returns-in_default-clause-falls g c = λ s row a new' falls.
    let o = c.in_ok-core.ensures in
    let asked = answers-agreed _ _ s c.visit.ensures.goes_on.further a in
    let now =
    neighbour-comes c.args.search.update _ s c.args.turn.place c.args.turn.vertex c.args.y row c.args.self.now.seen.weak.items
    (answers-agreed _ _ s c.core_of.ensures.goes_on.further asked) c.requires.read c.requires.neighbour
    (sym c.joins.ensures ∙ c.if-joins.false) c.requires.turn c.requires.at in
    c.in_ok-visit.ensures.falls s _ _ _ a (sym (told-core _ _ s _ _ asked o.told o.core) ∙ c.if-core-search.false) now.gone falls now.others now.joined

pub returns-else-has_looked-clause-tidy : goal.returns-else-has_looked-clause-tidy
returns-else-has_looked-clause-tidy g c =
    let r = c.requires in
    tidy-neighbour _ _ _ _ c.args.turn.vertex _ r.tidy c.core_of.ensures.goes_on c.in_ok-core.ensures.told r.read r.neighbour

pub returns-else-has_looked-clause-falls : goal.returns-else-has_looked-clause-falls
returns-else-has_looked-clause-falls g c = λ s row a new' falls.
    let kept = sym c.find.ensures ∙ c.in-Some.is in
    pass-by c.args.search.update c.args.search.level s _ c.args.turn.vertex c.args.y row c.args.self.now c.requires.turn c.requires.at
    (λ j oy. (
      ap is_some kept,
      not-looked _ _ _ c.args.turn.vertex c.args.y c.in-Some.found c.has_looked.result c.requires.tidy kept c.has_looked.ensures c.if-has_looked.false,
    )) falls

pub count_on-requires-clause-tidy : goal.count_on-requires-clause-tidy
count_on-requires-clause-tidy g c =
    let r = c.requires in
    tidy-neighbour _ _ _ _ c.args.turn.vertex _ r.tidy c.core_of.ensures.goes_on c.in_ok-core.ensures.told r.read r.neighbour

pub count_on-requires-clause-out : goal.count_on-requires-clause-out
count_on-requires-clause-out g c =
    (visited-looked _ _ _ c.args.turn.vertex c.args.y _ _ c.requires.tidy (sym c.find.ensures ∙ c.in-Some.is) c.has_looked.ensures c.if-has_looked.true).0

pub returns-in_ok-count_on-clause-goes_on : goal.returns-in_ok-count_on-clause-goes_on
returns-in_ok-count_on-clause-goes_on g c = GoesOn-trans _ _ _ c.core_of.ensures.goes_on c.count_on.ensures.goes_on

pub returns-in_ok-count_on-clause-falls : goal.returns-in_ok-count_on-clause-falls
returns-in_ok-count_on-clause-falls g c = λ s row a new' falls.
    let x = c.args.turn.vertex in
    let f = c.args.self.now in
    let update = c.args.search.update in
    let known = sym c.find.ensures ∙ c.in-Some.is in
    let seen = visited-looked _ _ _ x c.args.y _ _ c.requires.tidy known c.has_looked.ensures c.if-has_looked.true in
    let now = neighbour-comes update _ s c.args.turn.place x c.args.y row f.seen.weak.items
    (answers-agreed _ _ s c.core_of.ensures.goes_on.further (answers-agreed _ _ s c.count_on.ensures.goes_on.further a)) c.requires.read
    c.requires.neighbour (sym c.joins.ensures ∙ c.if-joins.false) c.requires.turn c.requires.at in
    let less =
    one-less update c.args.search.level s c.args.turn.place x c.args.y c.in-Some.found row f falls c.requires.turn c.requires.at known
    seen.0 seen.1 now.left new' in
    c.in_ok-count_on.ensures.falls s _ _ _ a (falls.visited_level c.args.y (ap is_some known)).level
    (subst (λ (k : Count). IsSupport update c.args.search.level s (take (c.args.turn.place + 1) f.seen.weak.items) c.args.y k) (sym c.less.ensures) less)
    now.gone falls now.others now.joined
