-- What holds of a call that was asked whether it is an error.
use Rattle.std.proofs.Common.{◌≡◌, Result, Ok, Err, OnErr, OnOk, is_err, false, true}

-- what holds at Ok holds where there is no error
pub at_ok : {T E P : Type 0} (r : Result T E) → OnOk r P → is_err r ≡ false → P
at_ok (Ok u) p is = p
at_ok (Err e) p is = absurd (cc is)

-- what holds at Err holds where there is one
pub at_err : {T E P : Type 0} (r : Result T E) → OnErr r P → is_err r ≡ true → P
at_err (Ok u) p is = absurd (cc is)
at_err (Err e) p is = p
