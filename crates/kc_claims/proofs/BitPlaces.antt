-- Who is told no place by bits is no id.
use Rattle.std.proofs.Common.{◌≡◌, ◌∙◌, ℕ, List, None, Option, Some, ap, false, is_none, sym, true}
use Rattle.kc_lists.specs.Lists.{member}
use Rattle.kc_claims.specs.IdBits.{AreBitsOf, place_by}
use Rattle.kc_claims.proofs.Rising.{no_id}

-- a number that bits tell no place is no id
pub untold-is-none : (ids words ends : List ℕ) → AreBitsOf ids words ends → (id : ℕ) (told : Option ℕ) → told ≡ place_by words ends id
    → is_none told ≡ true → member id ids ≡ false
untold-is-none ids words ends bits id None is none =
    no_id ids id (λ v l at_v. absurd (cc (is, ap (place_by words ends) (sym at_v) ∙ bits.each v l)))
untold-is-none ids words ends bits id (Some v) is none = absurd (cc none)
