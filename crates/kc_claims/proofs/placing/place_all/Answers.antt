-- The next id is of a vertex that is marked, so it is one of those before.
use Rattle.std.proofs.Common.{◌≡◌, ◌∙◌, arith, subst}
use Rattle.kc_graph.specs.Peeling.{at}
use Rattle.kc_claims.specs.Placing.{IsSecond}
use Rattle.kc_claims.proofs.Placed.{IsSecond-next}
use Rattle.kc_claims.proofs.placing.place_all.Goals as goal

pub returns-then-named-v-clause-second : goal.returns-then-named-v-clause-second
returns-then-named-v-clause-second c = λ place e.
    let here = c.loop-place.place in
    let column = c.args.column.now in
    let now = c.loop-place.column in
    let same : here ≡ place = cc in
    let stays : at now here ≡ at column here = c.loop-place.invariant.others here (omega arith) in
    subst (λ p. IsSecond column p × (at now p ≡ at column p)) same (
      IsSecond-next c.args.ids.now column here now c.loop-place.named c.loop-place.invariant c.requires.ascending c.in-Some.v
          c.in-Some.ensures.found.0 (c.in-Some.ensures.found.1 ∙ stays) c.loop-place-test.true c.if-named-v.true,
      stays,
    )
