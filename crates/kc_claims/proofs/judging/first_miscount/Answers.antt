-- The claim of the first vertex that is miscounted is the first that does not agree.
use Rattle.std.proofs.Common.{◌≡◌, ◌<◌, ◌∙◌, List, arith, get_or, length, subst, sym, ℕ}
use Rattle.std.proofs.lemmas.List.{get_or_default}
use Rattle.kc_graph.specs.Peeling.{at}
use Rattle.kc_claims.specs.Sweeping.{IsFirstMiscount, IsMiscountOf}
use Rattle.kc_claims.proofs.Judged.{agree-all, has-each, first-miscount, miscounted-not}
use Rattle.kc_claims.proofs.Streamed.{some-weaker}
use Rattle.kc_claims.proofs.judging.first_miscount.Goals as goal

-- what is read of a count is the count
counted : (counts : List ℕ) (v x : ℕ) → x ≡ get_or counts v x → v < length counts → x ≡ at counts v
counted counts v x is l = is ∙ sym (get_or_default counts v 0 x l)

pub first_wrong-requires : goal.first_wrong-requires
first_wrong-requires c =
    let (claims, order, h) = c.requires in
    has-each claims order c.args.sweep.now c.args.lines.now h

pub returns-in-Some-clause-found : goal.returns-in-Some-clause-found
returns-in-Some-clause-found c = λ claims order h.
    let sweep = c.args.sweep.now in
    let v : ℕ = c.in-Some.v in
    let later : c.index.result.now ≡ at sweep.later.items v = counted sweep.later.items v c.index.result.now c.index.ensures
    (omega (arith, c.in-Some.ensures.0, h.later_each)) in
    let supporting : c.index-in-Some.result.now ≡ at sweep.supporters.items v =
    counted sweep.supporters.items v c.index-in-Some.result.now c.index-in-Some.ensures (omega (arith, c.in-Some.ensures.0, h.supporters_each)) in
    some-weaker (IsMiscountOf c.vertex_claim-claim.result c.index.result.now c.index-in-Some.result.now)
    (IsFirstMiscount claims order sweep.later.items sweep.supporters.items) c.miscount_of.result
    (λ fault here.
    first-miscount claims order sweep c.args.lines.now h v c.vertex_claim-claim.result (λ i l is. c.vertex_claim-claim.ensures claims order i h l is)
    c.in-Some.ensures fault
    (subst (λ n. IsMiscountOf c.vertex_claim-claim.result (at sweep.later.items v) n fault) supporting
    (subst (λ n. IsMiscountOf c.vertex_claim-claim.result n c.index-in-Some.result.now fault) later here)))
    c.miscount_of.ensures.found

pub returns-in-Some-clause-agree : goal.returns-in-Some-clause-agree
returns-in-Some-clause-agree c = λ claims order h none.
    absurd (miscounted-not claims order c.args.sweep.now c.args.lines.now h c.in-Some.v c.vertex_claim-claim.result
    (λ i l is. c.vertex_claim-claim.ensures claims order i h l is) c.in-Some.ensures c.index.result.now c.index-in-Some.result.now
    (counted c.args.sweep.now.later.items c.in-Some.v c.index.result.now c.index.ensures (omega (arith, c.in-Some.ensures.0, h.later_each)))
    (counted c.args.sweep.now.supporters.items c.in-Some.v c.index-in-Some.result.now c.index-in-Some.ensures
    (omega (arith, c.in-Some.ensures.0, h.supporters_each))) (c.miscount_of.ensures.none none))

pub returns-in-None-clause-agree : goal.returns-in-None-clause-agree
returns-in-None-clause-agree c = λ claims order h none. agree-all claims order c.args.sweep.now c.args.lines.now h c.in-None.ensures
