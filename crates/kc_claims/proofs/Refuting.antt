-- What shows that claims are no certificate: a certificate has no first fault.
use Rattle.std.proofs.Common.{◌≡◌, ◌<◌, ◌∙◌, ℕ, List, true≢false, ap, arith, length, subst, sym}
use Rattle.std.specs.List.Sorted.{IsStrictlyIncreasing}
use Rattle.std.proofs.lemmas.List.{ext_get_or, get_or_default}
use Rattle.kc_lists.specs.Lists.{member}
use Rattle.kc_lists.proofs.Counting.{member-get_or}
use Rattle.kc_graph.specs.Peeling.{at}
use Rattle.kc_graph.specs.SimpleGraph.{SimpleGraph}
use Rattle.kc_claims.specs.Certificates.{AreCertificate, IsBetween, IsFirstFault, IsMiscounted, TellEach}
use Rattle.kc_claims.specs.declared.claim.Claim.{Claim}
use Rattle.kc_claims.specs.declared.fault.ClaimFault.{ClaimFault}
use Rattle.kc_claims.specs.declared.fault.ClaimFault.TheVariants.{Unknown, Repeated, Missing, ManyLater, FewSupporters}
use Rattle.kc_claims.proofs.Rising.{id-place, ids-apart}

module _ (ids : List ℕ) (claims : List Claim) where
  -- each vertex has a claim
  claim-of : (order core rank : List ℕ) → TellEach ids claims order core rank → (v : ℕ) → v < length ids → (i : ℕ) × (i < length claims) × (at order i ≡ v)
  claim-of order core rank t v l =
      let (i, k, is) = t.enumerates.complete v l in
      (i, omega (arith, t.all.one_each), get_or_default order i 0 v k ∙ is)

  module _ (up : IsStrictlyIncreasing ids) (order core rank order' core' rank' : List ℕ) (t : TellEach ids claims order core rank)
      (t' : TellEach ids claims order' core' rank') where
    -- claims have one order of vertices
    same-place : (i : ℕ) → i < length claims → at order i ≡ at order' i
    same-place i l = ids-apart ids up (at order i) (at order' i) (t.all.vertices i l) (t'.all.vertices i l) (t.all.named i l ∙ sym (t'.all.named i l))

    -- and tell each vertex one number and one rank
    same-core : core ≡ core'
    same-core = ext_get_or 0 core core' (t.one_number ∙ sym t'.one_number) (λ v l.
        let (i, k, is) = claim-of order core rank t v (omega (arith, t.one_number)) in
        ap (at core) (sym is) ∙ t.all.numbers i k ∙ sym (t'.all.numbers i k) ∙ ap (at core') (sym (same-place i k) ∙ is))

    same-rank : rank ≡ rank'
    same-rank = ext_get_or 0 rank rank' (t.one_rank ∙ sym t'.one_rank) (λ v l.
        let (i, k, is) = claim-of order core rank t v (omega (arith, t.one_rank)) in
        ap (at rank) (sym is) ∙ t.all.ranks i k ∙ sym (t'.all.ranks i k) ∙ ap (at rank') (sym (same-place i k) ∙ is))

  module _ (g : SimpleGraph) (up : IsStrictlyIncreasing ids) (size : length ids ≡ g.size) (c : AreCertificate ids g claims) where
    -- the vertex of a claim that was miscounted is between
    between-miscounted : (claim : Claim) (later supporting : ℕ) → (m : IsMiscounted ids g claims claim later supporting)
        → IsBetween g m.core m.rank (at m.order m.place)
    between-miscounted claim later supporting m =
        let core = same-core up c.order c.core c.rank m.order m.core m.rank c.told m.told in
        let rank = same-rank up c.order c.core c.rank m.order m.core m.rank c.told m.told in
        let l : at m.order m.place < g.size = omega (arith, m.told.all.vertices m.place m.within) in
        subst (λ (r : List ℕ). IsBetween g m.core r (at m.order m.place)) rank
        (subst (λ (k : List ℕ). IsBetween g k c.rank (at m.order m.place)) core (c.between (at m.order m.place) l))

    -- its number is that of the claim
    number-miscounted : (claim : Claim) (later supporting : ℕ) → (m : IsMiscounted ids g claims claim later supporting)
        → at m.core (at m.order m.place) ≡ claim.number
    number-miscounted claim later supporting m = m.told.all.numbers m.place m.within ∙ ap (λ (k : Claim). k.number) (sym m.is)

    -- a certificate has no fault
    pub no_fault : (fault : ClaimFault) → IsFirstFault ids g claims fault → ⊥
    no_fault (Unknown claim) f =
        let named = c.told.all.named f.place f.within ∙ ap (λ (k : Claim). k.id) (sym f.is) in
        true≢false
        (sym (member-get_or ids (at c.order f.place) 0 (c.told.all.vertices f.place f.within)) ∙ ap (λ x. member x ids) named ∙ f.unknown)
    no_fault (Repeated claim) f =
        let earlier : f.earlier < length claims = omega (arith, f.stands_before, f.within) in
        let same : at c.order f.earlier ≡ at c.order f.place =
        ids-apart ids up (at c.order f.earlier) (at c.order f.place) (c.told.all.vertices f.earlier earlier) (c.told.all.vertices f.place f.within)
        (c.told.all.named f.earlier earlier ∙ f.same ∙ ap (λ (k : Claim). k.id) f.is ∙ sym (c.told.all.named f.place f.within)) in
        c.told.enumerates.distinct f.earlier f.place 0 f.stands_before (omega (arith, c.told.all.one_each, f.within)) same
    no_fault (Missing id) f =
        let (v, l, is) = id-place ids id f.known in
        let (i, k, at_v) = claim-of c.order c.core c.rank c.told v l in
        f.missing i k (sym (c.told.all.named i k) ∙ ap (at ids) at_v ∙ is)
    no_fault (ManyLater claim count) (supporting, m, more) =
        absurd
        (omega (arith, (between-miscounted claim count supporting m).few_later, number-miscounted claim count supporting m, m.later_counted, more))
    no_fault (FewSupporters claim count) (later, m, few, less) =
        absurd (omega (arith, (between-miscounted claim later count m).supported, number-miscounted claim later count m, m.supporters_counted, less))
