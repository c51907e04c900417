-- What is wrong with the claim at this place is the first fault, since the vertices of all claims before it are between.
use Rattle.std.proofs.Common.{◌≡◌, ◌∙◌, ℕ, List, arith, refl, subst}
use Rattle.std.proofs.lemmas.List.{get_or_default}
use Rattle.kc_graph.specs.Peeling.{at}
use Rattle.kc_claims.specs.Certificates.{claim_at}
use Rattle.kc_claims.specs.Checking.{IsMiscountAt}
use Rattle.kc_claims.specs.declared.claim.Claim.{Claim}
use Rattle.kc_claims.proofs.Certified.{IsFirstFault-miscount}
use Rattle.kc_claims.proofs.checking.first_miscount.Goals as goal

pub returns-in-Some-clause-found : goal.returns-in-Some-clause-found
returns-in-Some-clause-found c =
    let taken = c.args.taken.now in
    let g = c.args.graph.now in
    let claim : Claim = claim_at c.args.claims.now c.loop-place.place in
    let v : c.index-v.result.now ≡ at taken.order.items c.loop-place.place =
    c.index-v.ensures
    ∙ get_or_default taken.order.items c.loop-place.place c.index-v.result.now 0 (omega (arith, c.loop-place-test.true, c.requires.told.all.one_each)) in
    IsFirstFault-miscount c.args.ids.now g c.args.claims.now taken.order.items taken.core.items taken.rank.items c.requires.told
    claim c.loop-place.place c.in-Some.fault c.loop-place-test.true refl c.loop-place.invariant
    (subst (λ (w : ℕ). IsMiscountAt g taken.core.items taken.rank.items w claim c.in-Some.fault) v
    (subst (λ (rank : List ℕ). IsMiscountAt g taken.core.items rank c.index-v.result.now claim c.in-Some.fault) c.deref-in-loop-place.ensures.value
    (subst (λ (core : List ℕ). IsMiscountAt g core c.deref-in-loop-place.result.now c.index-v.result.now claim c.in-Some.fault) c.deref.ensures.value
    c.in-Some.ensures.found)))
