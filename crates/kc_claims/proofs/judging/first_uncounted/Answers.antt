-- The claim of the first vertex of which nothing is counted is the first such one.
use Rattle.kc_claims.proofs.Judged.{counted-all, first-uncounted, has-each}
use Rattle.kc_claims.proofs.judging.first_uncounted.Goals as goal

pub first_wrong-requires : goal.first_wrong-requires
first_wrong-requires c =
    let (claims, order, h) = c.requires in
    has-each claims order c.args.sweep.now c.args.lines.now h

pub returns-in-Some-clause-found : goal.returns-in-Some-clause-found
returns-in-Some-clause-found c = λ claims order h.
    first-uncounted claims order c.args.sweep.now c.args.lines.now h c.in-Some.v c.vertex_claim.result
    (λ i l is. c.vertex_claim.ensures claims order i h l is) c.in-Some.ensures

pub returns-in-None-clause-counted : goal.returns-in-None-clause-counted
returns-in-None-clause-counted c = λ claims order h none. counted-all claims order c.args.sweep.now c.args.lines.now h c.in-None.ensures
