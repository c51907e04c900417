-- Nothing was counted so far.
use Rattle.std.proofs.Common.{ℕ, List, arith, refl, subst}
use Rattle.kc_claims.specs.Places.{ArePlaces}
use Rattle.kc_claims.proofs.Counted.{HasSwept-fresh}
use Rattle.kc_claims.proofs.sweep.Sweep.new.Goals as goal

pub returns-clause-fresh : goal.returns-clause-fresh
returns-clause-fresh c =
    HasSwept-fresh _ c.requires.ascending c.requires.few c.requires.numbered c.requires.ranked refl refl
    (omega (arith, c.in_ok-later.ensures.one_each, c.len-vertices.ensures, c.args.ids.ok.0))
    (omega (arith, c.in_ok-supporters.ensures.one_each, c.len-vertices.ensures, c.args.ids.ok.0)) (λ v _. c.in_ok-later.ensures.none v)
    (λ v _. c.in_ok-supporters.ensures.none v)
    (subst (λ (xs : List ℕ). ArePlaces xs c.in_ok-places.places) c.deref.ensures.value c.in_ok-places.ensures)
