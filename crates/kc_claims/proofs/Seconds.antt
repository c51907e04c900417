-- A claim that is not the first of its id.
use Rattle.std.proofs.Common.{◌≡◌, ◌<◌, ◌∙◌, ℕ, List, ap, arith, length, sym}
use Rattle.kc_lists.specs.Lists.{member}
use Rattle.kc_lists.proofs.Counting.{member-get_or}
use Rattle.kc_claims.specs.Certificates.{IsRepeated, claim_at}
use Rattle.kc_claims.specs.Placing.{IsSecond}
use Rattle.kc_claims.specs.Tables.{AreIdsOf}
use Rattle.kc_claims.specs.declared.claim.Claim.{Claim}

-- a claim whose id is one of those before it is the first fault
pub IsFirstFault-second : (claims : List Claim) (column : List ℕ) (claim : Claim) (place : ℕ) → AreIdsOf claims column → IsSecond column place
    → claim ≡ claim_at claims place → IsRepeated column claims claim
IsFirstFault-second claims column claim place ids second is = record {
  place = place;
  within = within;
  is = is;
  earlier = second.earlier;
  stands_before = second.stands_before;
  same =
      sym (ids.id second.earlier (omega (arith, second.stands_before, within))) ∙ second.same ∙ ids.id place within
      ∙ ap (λ (c : Claim). c.id) (sym is);
  before = record {
    known = λ i l.
        ap (λ x. member x column) (sym (ids.id i (omega (arith, l, within))))
        ∙ member-get_or column i 0 (omega (arith, l, second.within));
    once = λ i j l k same.
        second.apart i j l k (ids.id i (omega (arith, l, k, within)) ∙ same ∙ sym (ids.id j (omega (arith, k, within))));
  };
} where
  within : place < length claims
  within = omega (arith, second.within, ids.ids_each)
