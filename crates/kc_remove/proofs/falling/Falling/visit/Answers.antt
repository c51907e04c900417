-- A vertex that was never visited is not among the fallen, and none of its neighbours was looked at.
use Rattle.std.proofs.Common.{take, sym, subst}
use Rattle.kc_view.proofs.Keeping.{GoesOn-trans}
use Rattle.kc_remove.specs.Visits.{IsSupport}
use Rattle.kc_remove.specs.declared.falling.Count.{Count}
use Rattle.kc_remove.proofs.Listed.{none-found}
use Rattle.kc_remove.proofs.Tidy.{tidy-list, unvisited-out}
use Rattle.kc_remove.proofs.falling.Falling.visit.Goals as goal

pub count_on-requires-clause-out : goal.count_on-requires-clause-out
count_on-requires-clause-out g c = unvisited-out _ _ _ c.requires.tidy c.args.y.vertex c.requires.is_new

pub count_on-requires-clause-tidy : goal.count_on-requires-clause-tidy
count_on-requires-clause-tidy g c = tidy-list _ _ _ _ _ c.requires.tidy c.degree_of.ensures.goes_on c.in_ok-degree_of.ensures.told c.requires.near

pub returns-clause-goes_on : goal.returns-clause-goes_on
returns-clause-goes_on g c = GoesOn-trans _ _ _ c.degree_of.ensures.goes_on c.count_on.ensures.goes_on

pub returns-clause-falls : goal.returns-clause-falls
returns-clause-falls g c = λ s turn part later a lvl.
    let gone = take c.args.y.turns c.args.self.now.seen.weak.items in
    c.in_ok-count_on.ensures.falls s turn part later a lvl
    (subst (λ (count : Count). IsSupport c.args.search.update c.args.search.level s gone c.args.y.vertex count) (sym c.new.ensures)
    (none-found c.args.search.update c.args.search.level s gone c.args.y.vertex))
