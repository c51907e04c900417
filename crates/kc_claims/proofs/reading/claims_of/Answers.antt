-- The first line of the rest is refused, or there is none, and so no claim is left.
use Rattle.std.proofs.Common.{◌≡◌, ◌+◌, ◌∙◌, List, Ok, Err, ap, append-nil, sym}
use Rattle.kc_text.specs.Lines.{lines}
use Rattle.kc_text.specs.declared.refusal.Refusal.{Refusal}
use Rattle.kc_claims.specs.Claims.{behind_claims, claims_after}
use Rattle.kc_claims.specs.declared.claim.Claim.{Claim}
use Rattle.kc_claims.proofs.Joined.{claims_after-first, claims_of-is}
use Rattle.kc_claims.proofs.reading.claims_of.Goals as goal

pub returns-in-Err-clause-refused : goal.returns-in-Err-clause-refused
returns-in-Err-clause-refused c = λ refusal h.
    let here : Refusal = record { line = c.loop-first.line + 1; kind = c.in-Err.kind } in
    let same : here ≡ refusal = cc in
    let first : claims_after c.loop-first.line (lines c.loop-first.rest.now) ≡ Err here =
    claims_after-first c.loop-first.line c.loop-first.rest.now c.in-Some.first.now c.in-Some.others.now (Err c.in-Err.kind) c.in-Some.ensures.lines
    c.in-Err.ensures in
    claims_of-is c.args.text.now (Err refusal)
    (sym c.loop-first.invariant.joined ∙ ap (behind_claims c.loop-first.claims.items) first ∙ ap (λ (r : Refusal). Err r) same)

pub returns-clause-claims : goal.returns-clause-claims
returns-clause-claims c =
    claims_of-is c.args.text.now (Ok c.loop-first.claims.items)
    (sym c.loop-first.invariant.joined
    ∙ ap (λ ls. behind_claims c.loop-first.claims.items (claims_after c.loop-first.line ls)) c.in_default.ensures.lines
    ∙ ap (λ (claims : List Claim). Ok claims) (append-nil c.loop-first.claims.items))
