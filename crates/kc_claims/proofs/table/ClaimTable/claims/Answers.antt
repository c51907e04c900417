-- At each place the table has the claim that stands there.
use Rattle.std.proofs.Common.{◌≡◌, ◌<◌, ◌++◌, ◌∷◌, ◌∙◌, [], List, ap, arith, length, sym, take}
use Rattle.std.proofs.lemmas.List.{take_all, take_more}
use Rattle.kc_claims.specs.Certificates.{claim_at}
use Rattle.kc_claims.specs.declared.claim.Claim.{Claim}
use Rattle.kc_claims.proofs.table.ClaimTable.claims.Goals as goal

pub claim-requires-clause-columns : goal.claim-requires-clause-columns
claim-requires-clause-columns c =
    let (claims, h) = c.requires in
    (claims, h.columns, sym h.ids.ids_each)

pub loop-place-preserved : goal.loop-place-preserved
loop-place-preserved c = λ claims h.
    let place = c.loop-place.place in
    let within : place < length claims = omega (arith, c.loop-place-test.true, h.ids.ids_each) in
    let told : c.claim.result ≡ claim_at claims place = c.claim.ensures claims h.columns within (h.ids.id place within) in
    c.in_ok-push.ensures.items
    ∙ ap (λ (cs : List Claim). cs ++ c.claim.result ∷ []) (c.loop-place.invariant claims h)
    ∙ ap (λ (x : Claim). take place claims ++ x ∷ []) told
    ∙ sym (take_more claims place (claim_at [] 0) within)

pub returns : goal.returns
returns c = λ claims h. c.loop-place.invariant claims h ∙ take_all _ claims (omega (arith, h.ids.ids_each))
