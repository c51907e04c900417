-- The claim of the next vertex is put at its place, and in the end each place has its claim.
use Rattle.std.proofs.Common.{◌≡◌, ◌<◌, ◌∙◌, [], List, ap, arith, length, subst, sym}
use Rattle.std.proofs.lemmas.List.{ext_get_or, length-set}
use Rattle.kc_claims.specs.Certificates.{claim_at}
use Rattle.kc_claims.specs.declared.claim.Claim.{Claim}
use Rattle.kc_claims.proofs.Judged.{claim-put, has-each, one-number, vertex-at, vertex-place}
use Rattle.kc_claims.proofs.judging.claims_of.Goals as goal

pub claim_place-place-requires-clause-each : goal.claim_place-place-requires-clause-each
claim_place-place-requires-clause-each c =
    let (claims, order, h) = c.requires in
    has-each claims order c.args.sweep.now c.args.lines.now h

pub put_at-requires : goal.put_at-requires
put_at-requires c =
    let (claims, order, h) = c.requires in
    let sweep = c.args.sweep.now in
    let lines = c.args.lines.now in
    let v = c.loop-v.v in
    let l : v < length sweep.core.items = omega (arith, c.loop-v-test.true) in
    let (within, stands) = vertex-place claims order sweep lines h v l c.claim_place-place.result c.claim_place-place.ensures in
    omega (arith, within, c.loop-v.invariant.size, one-number claims order sweep lines h)

pub loop-v-preserved : goal.loop-v-preserved
loop-v-preserved c =
    let sweep = c.args.sweep.now in
    let lines = c.args.lines.now in
    let v = c.loop-v.v in
    let l : v < length sweep.core.items = omega (arith, c.loop-v-test.true) in
    record {
      size = ap length c.put_at.ensures ∙ length-set c.loop-v.told.items _ _ ∙ c.loop-v.invariant.size;
      stand = λ claims order h i k below.
          subst (λ (cs : List Claim). claim_at cs i ≡ claim_at claims i) (sym c.put_at.ensures)
          (claim-put claims order sweep lines h v l c.claim_place-place.result c.claim_place-place.ensures c.loop-v.told.items c.loop-v.invariant.size
          c.vertex_claim-claim.result (λ j m is. c.vertex_claim-claim.ensures claims order j h m is)
          (λ j m n. c.loop-v.invariant.stand claims order h j m n) i k below);
    }

pub returns : goal.returns
returns c = λ claims order h.
    let told = c.loop-v.told.items in
    let sweep = c.args.sweep.now in
    let size : length told ≡ length claims = c.loop-v.invariant.size ∙ one-number claims order sweep c.args.lines.now h in
    ext_get_or (claim_at [] 0) told claims size
    (λ i l.
    let k : i < length claims = omega (arith, l, size) in
    c.loop-v.invariant.stand claims order h i k (omega (arith, vertex-at claims order sweep c.args.lines.now h i k)))
