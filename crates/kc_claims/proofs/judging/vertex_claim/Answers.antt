-- The claim of the vertex is the one at the place that is found for it.
use Rattle.std.proofs.Common.{◌≡◌, ◌∙◌, ℕ, ap, arith, subst, sym}
use Rattle.std.proofs.lemmas.List.{get_or_default}
use Rattle.kc_graph.specs.Peeling.{at}
use Rattle.kc_claims.specs.Certificates.{claim_at, rank_in}
use Rattle.kc_claims.specs.Stretches.{AreStretched}
use Rattle.kc_claims.proofs.Judged.{has-each, one-claim, vertex-place}
use Rattle.kc_claims.proofs.judging.vertex_claim.Goals as goal

pub claim_place-requires-clause-each : goal.claim_place-requires-clause-each
claim_place-requires-clause-each c =
    let (claims, order, h) = c.requires.counted in
    has-each claims order c.args.sweep.now c.args.lines.now h

pub claim_at-requires : goal.claim_at-requires
claim_at-requires c =
    let (claims, order, h) = c.requires.counted in
    let (within, here) = vertex-place claims order c.args.sweep.now c.args.lines.now h c.args.v c.requires.vertex c.claim_place.result c.claim_place.ensures in
    (claims, subst (AreStretched claims) (sym c.deref.ensures.value) h.stand.stretched, within)

pub returns : goal.returns
returns c = λ claims order i h l is.
    let sweep = c.args.sweep.now in
    let v : ℕ = c.args.v in
    let place : ℕ = c.claim_place.result in
    let (within, here) = vertex-place claims order sweep c.args.lines.now h v c.requires.vertex place c.claim_place.ensures in
    let same : place ≡ i = one-claim claims order sweep c.args.lines.now h place i within l (here ∙ sym is) in
    let id : c.index.result.now ≡ (claim_at claims place).id =
    c.index.ensures ∙ sym (get_or_default sweep.ids.items v 0 c.index.result.now (omega (arith, c.requires.vertex, h.told.one_number)))
    ∙ ap (at sweep.ids.items) (sym here) ∙ h.told.all.named place within in
    let number : c.index-2.result.now ≡ (claim_at claims place).number =
    c.index-2.ensures ∙ sym (get_or_default sweep.core.items v 0 c.index-2.result.now c.requires.vertex)
    ∙ ap (at sweep.core.items) (sym here) ∙ h.told.all.numbers place within in
    let rank : c.index-3.result.now ≡ rank_in place (claim_at claims place) =
    c.index-3.ensures
    ∙ sym (get_or_default sweep.rank.items v 0 c.index-3.result.now (omega (arith, c.requires.vertex, h.told.one_number, h.told.one_rank)))
    ∙ ap (at sweep.rank.items) (sym here) ∙ h.told.all.ranks place within in
    c.claim_at.ensures claims (subst (AreStretched claims) (sym c.deref.ensures.value) h.stand.stretched) within id number rank ∙ ap (claim_at claims) same
