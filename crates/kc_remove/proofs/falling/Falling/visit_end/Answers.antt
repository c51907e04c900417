-- An end whose core number is the level is visited before any turn has come to it; an end of another number is not of the level.
use Rattle.std.proofs.Common.{refl, sym, ◌∙◌}
use Rattle.std.proofs.lemmas.Bool.{false≢true}
use Rattle.kc_view.proofs.Keeping.{GoesOn-trans, answers-agreed}
use Rattle.kc_remove.specs.Cascade.{nobody}
use Rattle.kc_remove.proofs.Coming.{told-core}
use Rattle.kc_remove.proofs.Tidy.{tidy-end}
use Rattle.kc_remove.proofs.falling.Falling.visit_end.Goals as goal

pub visit-requires-clause-tidy : goal.visit-requires-clause-tidy
visit-requires-clause-tidy g c = tidy-end _ _ _ _ _ c.requires.tidy c.core_of.ensures.goes_on c.in_ok-core.ensures.told c.requires.is_end

pub returns-in_ok-visit-clause-goes_on : goal.returns-in_ok-visit-clause-goes_on
returns-in_ok-visit-clause-goes_on g c = GoesOn-trans _ _ _ c.core_of.ensures.goes_on c.visit.ensures.goes_on

pub returns-in_ok-visit-clause-falls : goal.returns-in_ok-visit-clause-falls
returns-in_ok-visit-clause-falls g c = λ s a falls.
    let o = c.in_ok-core.ensures in
    let is = told-core _ _ s _ _ (answers-agreed _ _ s c.visit.ensures.goes_on.further a) o.told o.core in
    c.in_ok-visit.ensures.falls s 0 nobody nobody a (sym is ∙ c.if-core-search.true) refl falls (λ z ne. refl) (λ p. absurd (false≢true p))

pub returns-else-core-search-clause-tidy : goal.returns-else-core-search-clause-tidy
returns-else-core-search-clause-tidy g c =
    tidy-end _ _ _ _ _ c.requires.tidy c.core_of.ensures.goes_on c.in_ok-core.ensures.told c.requires.is_end

pub returns-else-core-search-clause-visited : goal.returns-else-core-search-clause-visited
returns-else-core-search-clause-visited g c = λ s a lvl.
    let o = c.in_ok-core.ensures in
    absurd (c.if-core-search.false (told-core _ _ s _ _ a o.told o.core ∙ lvl))
