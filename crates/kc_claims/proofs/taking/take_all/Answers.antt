-- The next claim is of no id, or of a vertex that is marked, or it is taken.
use Rattle.std.proofs.Common.{◌≡◌, ◌<◌, ◌∙◌, arith, false, length, refl, subst, sym, true}
use Rattle.std.proofs.lemmas.List.{get_or_default}
use Rattle.kc_claims.specs.Certificates.{IsFirstFault, claim_at}
use Rattle.kc_claims.specs.Taking.{IsTakenWith, is_marked}
use Rattle.kc_claims.specs.declared.claim.Claim.{Claim}
use Rattle.kc_claims.specs.declared.fault.ClaimFault.TheVariants as fault
use Rattle.kc_claims.proofs.Told.{HasTaken-more, IsRepeated-next, IsUnknown-next}
use Rattle.kc_claims.proofs.taking.take_all.Goals as goal

pub returns-in_default-clause-faulty : goal.returns-in_default-clause-faulty
returns-in_default-clause-faulty c = λ g found h.
    let claim : Claim = claim_at c.args.claims.now c.loop-place.place in
    let same : fault.Unknown claim ≡ found = cc in
    subst (IsFirstFault c.args.ids.now g c.args.claims.now) same
    (IsUnknown-next c.args.ids.now c.args.claims.now c.loop-place.place c.loop-place.taken c.loop-place.invariant c.requires.ascending claim
    c.loop-place-test.true refl (c.in_default.ensures.none refl))

pub returns-then-index-clause-faulty : goal.returns-then-index-clause-faulty
returns-then-index-clause-faulty c = λ g found h.
    let claim : Claim = claim_at c.args.claims.now c.loop-place.place in
    let within : c.in-Some.v < length c.loop-place.taken.named.items = omega (arith, c.in-Some.ensures.found.0, c.loop-place.invariant.one_mark) in
    let mark : is_marked c.loop-place.taken.named.items c.in-Some.v ≡ true =
    get_or_default c.loop-place.taken.named.items c.in-Some.v false c.index.result.now within ∙ sym c.index.ensures ∙ c.if-index.true in
    let same : fault.Repeated claim ≡ found = cc in
    subst (IsFirstFault c.args.ids.now g c.args.claims.now) same
    (IsRepeated-next c.args.ids.now c.args.claims.now c.loop-place.place c.loop-place.taken c.loop-place.invariant c.requires.ascending claim
    c.loop-place-test.true refl c.in-Some.v c.in-Some.ensures.found.0 c.in-Some.ensures.found.1 mark)

pub loop-place-preserved : goal.loop-place-preserved
loop-place-preserved c =
    let claim : Claim = claim_at c.args.claims.now c.loop-place.place in
    let within : c.in-Some.v < length c.loop-place.taken.named.items = omega (arith, c.in-Some.ensures.found.0, c.loop-place.invariant.one_mark) in
    let mark : is_marked c.loop-place.taken.named.items c.in-Some.v ≡ false =
    get_or_default c.loop-place.taken.named.items c.in-Some.v false c.index.result.now within ∙ sym c.index.ensures ∙ c.if-index.false in
    HasTaken-more c.args.ids.now c.args.claims.now c.loop-place.place c.loop-place.taken c.loop-place.invariant c.take.new.self c.in-Some.v
    c.in-Some.ensures.found.0 c.in-Some.ensures.found.1 mark
    (subst (IsTakenWith c.loop-place.taken c.take.new.self c.in-Some.v claim.number) c.rank_in.ensures c.in_ok-take.ensures)
