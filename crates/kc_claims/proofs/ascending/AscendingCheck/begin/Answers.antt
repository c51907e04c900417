-- The claims tell what the sweep has, or one repeats an id.
use Rattle.std.proofs.Common.{◌≡◌, ◌∙◌, [], Err, ap, subst}
use Rattle.kc_text.specs.Inputs.{start_graph}
use Rattle.kc_claims.specs.Streams.{IsFaultOfStream}
use Rattle.kc_claims.specs.declared.fault.CheckFault.TheVariants as check
use Rattle.kc_claims.specs.declared.fault.ClaimFault.{ClaimFault}
use Rattle.kc_claims.specs.declared.fault.ClaimFault.TheVariants as claim_fault
use Rattle.kc_claims.proofs.ascending.AscendingCheck.begin.Goals as goal

pub returns-in-Ok-clause-begun : goal.returns-in-Ok-clause-begun
returns-in-Ok-clause-begun c = λ claims tabled.
    let (order, h) = c.in-Ok.ensures.claimed claims tabled in
    c.new.ensures claims order h

pub returns-in-Err-Faulty-Repeated-clause-faulty : goal.returns-in-Err-Faulty-Repeated-clause-faulty
returns-in-Err-Faulty-Repeated-clause-faulty c = λ claims fault known tabled e.
    let claim = c.in-Err-Faulty-Repeated.claim in
    let (ids, first) = c.in-Err-Faulty-Repeated.ensures.faulty claims (claim_fault.Repeated claim) tabled
    (ap Err (c.in-Err-Faulty-Repeated.field-0-is ∙ ap check.Faulty c.in-Err-Faulty-Repeated.field-0-0-is)) in
    let same : claim_fault.Repeated claim ≡ fault = cc in
    subst (λ (f : ClaimFault). IsFaultOfStream claims f known) same (ids, first (start_graph ids []))
