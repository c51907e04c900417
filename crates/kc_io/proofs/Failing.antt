-- A call in memory that fails.
use Rattle.std.proofs.Common.{◌≡◌, ◌≤◌, Err, ap, ◌∙◌, arith}
use Rattle.kc_io.specs.Calls.{CallsSoFar, one_called, one_failed}
use Rattle.kc_io.specs.Causes.{HasCause, one_more}

-- a call was counted, and then a fault
pub HasCause-failed : {T E : Type 0} (before begun after : CallsSoFar) (e : E) → begun ≡ one_called before → after ≡ one_failed begun
    → begun.failed ≤ after.failed
    → HasCause {T = T} before.failed after.failed (Err e)
HasCause-failed before begun after e called failed later =
    let same : begun.failed ≡ before.failed = ap (λ (calls : CallsSoFar). calls.failed) called in
    let more : after.failed ≡ one_more before.failed = ap (λ (calls : CallsSoFar). calls.failed) failed ∙ ap one_more same in
    record { later = omega arith; failed = omega arith; kept = tt }
