-- What is known of a result or an option, whichever it is.
use Rattle.std.proofs.Common.{◌≡◌, false, refl}
use Rattle.std.specs.Prelude.{OnErr, Option, None, Some, Result, Ok, Err, is_some}
use Rattle.std.proofs.lemmas.Bool.{true≢false}

-- what holds anyhow holds where there is an error
pub on_err-anyhow : {T E P : Type 0} (r : Result T E) → P → OnErr r P
on_err-anyhow (Ok v) p = tt
on_err-anyhow (Err e) p = p

-- where it is not some, it is none
pub none-from : {X : Type 0} (o : Option X) → is_some o ≡ false → o ≡ None
none-from None h = refl
none-from (Some x) h = absurd (true≢false h)
