-- Claims that are a certificate, and the first claim that shows that they are none.
use Rattle.std.proofs.Common.{◌≡◌, ◌<◌, ◌∙◌, ℕ, List, ap, arith, length, refl, subst}
use Rattle.std.proofs.lemmas.List.{get_or_default}
use Rattle.kc_graph.specs.Peeling.{at}
use Rattle.kc_graph.specs.SimpleGraph.{SimpleGraph}
use Rattle.kc_claims.specs.Certificates.{AreCertificate, IsBetween, IsFirstFault, TellEach, claim_at, later_neighbours, supporters}
use Rattle.kc_claims.specs.Checking.{IsMiscountAt}
use Rattle.kc_claims.specs.declared.claim.Claim.{Claim}
use Rattle.kc_claims.specs.declared.fault.ClaimFault.{ClaimFault}
use Rattle.kc_claims.specs.declared.fault.ClaimFault.TheVariants.{Unknown, Repeated, Missing, ManyLater, FewSupporters}

module _ (ids : List ℕ) (g : SimpleGraph) (claims : List Claim) (order core rank : List ℕ) (told : TellEach ids claims order core rank) where
  -- where the vertices of all claims are between, the claims are a certificate
  pub AreCertificate-between : length ids ≡ g.size → ((i : ℕ) → i < length claims → IsBetween g core rank (at order i)) → AreCertificate ids g claims
  AreCertificate-between size all = record {
    order = order;
    core = core;
    rank = rank;
    told = told;
    between = λ v l.
        let (i, k, is) = told.enumerates.complete v (omega (arith, size)) in
        subst (IsBetween g core rank) (get_or_default order i 0 v k ∙ is) (all i (omega (arith, told.all.one_each)));
  }

  -- what is found wrong with a claim is the first fault, where all claims before it are between
  pub IsFirstFault-miscount : (claim : Claim) (place : ℕ) (fault : ClaimFault) → place < length claims → claim ≡ claim_at claims place
      → ((i : ℕ) → i < place → IsBetween g core rank (at order i)) → IsMiscountAt g core rank (at order place) claim fault
      → IsFirstFault ids g claims fault
  IsFirstFault-miscount claim place (ManyLater this count) within is before (same, counted, more) = (
    supporters g core (at order place),
    record {
      order = order;
      core = core;
      rank = rank;
      told = told;
      place = place;
      within = within;
      is = same ∙ is;
      later_counted = counted;
      supporters_counted = refl;
      before = before;
    },
    omega (arith, ap (λ (c : Claim). c.number) same),
  )
  IsFirstFault-miscount claim place (FewSupporters this count) within is before (same, counted, few, less) = (
    later_neighbours g core rank (at order place),
    record {
      order = order;
      core = core;
      rank = rank;
      told = told;
      place = place;
      within = within;
      is = same ∙ is;
      later_counted = refl;
      supporters_counted = counted;
      before = before;
    },
    omega (arith, ap (λ (c : Claim). c.number) same),
    omega (arith, ap (λ (c : Claim). c.number) same),
  )
  IsFirstFault-miscount claim place (Unknown this) within is before h = absurd h
  IsFirstFault-miscount claim place (Repeated this) within is before h = absurd h
  IsFirstFault-miscount claim place (Missing id) within is before h = absurd h
