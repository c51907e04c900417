-- The claim stands in the last stretch, or it begins the next one.
use Rattle.std.proofs.Common.{◌∷◌, ◌++◌, [], List, subst, sym}
use Rattle.kc_claims.specs.Stretches.{AreStretched}
use Rattle.kc_claims.specs.declared.stretch.Stretch.{Stretch}
use Rattle.kc_claims.proofs.Stretched.{AreStretched-more}
use Rattle.kc_claims.proofs.stretch.put_claim.Goals as goal

pub returns : goal.returns
returns c = λ claims claim h begun.
    subst (λ (s : List Stretch). AreStretched (claims ++ claim ∷ []) s) (sym c.in_ok-push.ensures.items)
    (AreStretched-more claims c.args.stretches.now.items h claim begun.few c.args.next begun.place begun.stands)
