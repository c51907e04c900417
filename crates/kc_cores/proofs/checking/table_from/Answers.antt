-- A line of the certificate that is refused is told, and no call of the source has failed then.
use Rattle.std.proofs.Common.{refl}
use Rattle.kc_cores.proofs.Claiming.{HasNoClaims-refused, known-refused}
use Rattle.kc_cores.proofs.checking.table_from.Goals as goal

pub returns-in-Err-Refused-clause-stopped : goal.returns-in-Err-Refused-clause-stopped
returns-in-Err-Refused-clause-stopped g c =
    let left = g.C.Source.left c.args.source.now in
    let refusal = c.in-Err-Refused.refusal in
    let refused = rw c.in-Err-Refused.field-0-is at c.in-Err-Refused.ensures.refused in
    let faultless = rw c.in-Err-Refused.field-0-is at c.in-Err-Refused.ensures.faultless in
    HasNoClaims-refused c.claim_refused.result c.args.name.now refusal left _ _ c.claim_refused.ensures (known-refused left refusal (refused refusal refl))
    (faultless (λ e. absurd (cc)))
