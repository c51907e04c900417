-- The first claim that does not agree is the fault, or else the first of whose vertex nothing is counted.
use Rattle.std.proofs.Common.{refl}
use Rattle.kc_claims.proofs.Insisted.{IsCountFault-miscount}
use Rattle.kc_claims.proofs.judging.fault_by_counts.Goals as goal

pub returns-in-Some-clause-found : goal.returns-in-Some-clause-found
returns-in-Some-clause-found c = λ claims order h.
    let found = c.in-Some.ensures.found claims order h in
    let sweep = c.args.sweep.now in
    IsCountFault-miscount claims order sweep.later.items sweep.supporters.items c.in-Some.fault found

pub returns-in-Some-first_uncounted-clause-found : goal.returns-in-Some-first_uncounted-clause-found
returns-in-Some-first_uncounted-clause-found c = λ claims order h.
    (c.in_default.ensures.agree claims order h refl, c.in-Some-first_uncounted.ensures.found claims order h)

pub returns-in-None-clause-agree : goal.returns-in-None-clause-agree
returns-in-None-clause-agree c = λ claims order h none. c.in_default.ensures.agree claims order h refl

pub returns-in-None-clause-counted : goal.returns-in-None-clause-counted
returns-in-None-clause-counted c = λ claims order h none. c.in-None.ensures.counted claims order h refl
