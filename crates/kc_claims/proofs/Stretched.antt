-- Claims in stretches: how the stretch of a place is found, and how a claim more is put into one.
use Rattle.std.proofs.Common.{◌≡◌, ◌≤◌, ◌<◌, ◌+◌, ◌-◌, ◌^◌, ◌++◌, ◌∷◌, ◌∙◌, ℕ, List, []}
use Rattle.std.proofs.Common.{ap, arith, below_more, false, get_or, inl, inr, leb, leb-false, leb-true, length, length-append, refl, subst, sym, true}
use Rattle.std.specs.List.Sorted.{IsNonDecreasingBy, IsPartitionPoint}
use Rattle.std.proofs.Math.ListN.{get_or-append}
use Rattle.std.proofs.Math.Seq.{get_or-append_seam}
use Rattle.std.proofs.lemmas.Bool.{cases_eq}
use Rattle.std.proofs.lemmas.List.{get_or_default}
use Rattle.kc_claims.specs.Certificates.{claim_at}
use Rattle.kc_claims.specs.Stretches.{AreStretched, IsStretchOf, StandsIn, stretch_at}
use Rattle.kc_claims.specs.declared.claim.Claim.{Claim}
use Rattle.kc_claims.specs.declared.stretch.Stretch.{Stretch}

-- the first of a stretch behind others is the first of these, or this one
first-push : (stretches : List Stretch) (s : Stretch) → (stretch_at stretches 0).place ≡ 0 → (length stretches ≡ 0 → s.place ≡ 0)
    → (stretch_at (stretches ++ s ∷ []) 0).place ≡ 0
first-push [] s first alone = alone refl
first-push (x ∷ xs) s first alone = first

module _ (claims : List Claim) (stretches : List Stretch) (h : AreStretched claims stretches) where
  -- the places at which stretches begin don't fall
  pub places-rise : IsNonDecreasingBy (λ (s : Stretch). s.place) stretches
  places-rise i j d le l = elim (cases_eq i j) [
    | inl e ↦ let same : (get_or stretches i d).place ≡ (get_or stretches j d).place = ap (λ k. (get_or stretches k d).place) e in omega arith
    | inr ne ↦
        let first : (get_or stretches i d).place ≡ (stretch_at stretches i).place = here i d (omega arith) in
        let second : (get_or stretches j d).place ≡ (stretch_at stretches j).place = here j d l in
        let rises : (stretch_at stretches i).place < (stretch_at stretches j).place = h.rise i j (omega arith) l in
        omega arith
  ]
    where
      here : (k : ℕ) (d : Stretch) → k < length stretches → (get_or stretches k d).place ≡ (stretch_at stretches k).place
      here k d m = ap (λ (s : Stretch). s.place) (get_or_default stretches k d (stretch_at [] 0) m)

  -- where there is no stretch there is no claim
  no-claim : length stretches ≡ 0 → length claims ≡ 0
  no-claim none = elim (cases_eq (length claims) 0) [
    | inl e ↦ e
    | inr ne ↦ absurd (let some : 0 < length stretches = h.some (omega arith) in omega arith)
  ]

  module _ (place begun : ℕ) (l : place < length claims) (bound : begun ≤ length stretches)
      (point : IsPartitionPoint (λ (s : Stretch). leb s.place place ≡ true) (λ (s : Stretch). leb s.place place ≡ false) stretches begun) where
    -- the first stretch begins at the place or before it
    pub some-begun : 1 ≤ begun
    some-begun = elim (cases_eq begun 0) [
      | inl e ↦
          absurd (let later : leb (stretch_at stretches 0).place place ≡ false =
          point.1 0 (stretch_at [] 0) (omega (arith, e)) (h.some (omega arith)) in
          omega (arith, leb-false (stretch_at stretches 0).place place later, h.first))
      | inr ne ↦ omega arith
    ]

    -- the last of those that do is the stretch of the place
    pub IsStretchOf-point : IsStretchOf stretches place (begun - 1)
    IsStretchOf-point = record {
      within = omega (arith, some-begun);
      begun = leb-true (stretch_at stretches (begun - 1)).place place
          (point.0 (begun - 1) (stretch_at [] 0) (omega arith) (omega (arith, some-begun)));
      last = λ j m n.
          let later : leb (stretch_at stretches j).place place ≡ false = point.1 j (stretch_at [] 0) (omega (arith, some-begun)) n in
          leb-false (stretch_at stretches j).place place later;
    }

  module _ (claim : Claim) (few : length claims < 2 ^ 32) where
    size : length (claims ++ claim ∷ []) ≡ length claims + 1
    size = length-append claims (claim ∷ [])

    -- the claims so far, and the one behind them
    old-claim : (i : ℕ) → i < length claims → claim_at (claims ++ claim ∷ []) i ≡ claim_at claims i
    old-claim i l = get_or-append claims (claim ∷ []) (claim_at [] 0) i l

    new-claim : claim_at (claims ++ claim ∷ []) (length claims) ≡ claim
    new-claim = get_or-append_seam claims claim [] (claim_at [] 0)

    module _ (s : Stretch) (place : s.place ≡ length claims) where
      more : length (stretches ++ s ∷ []) ≡ length stretches + 1
      more = length-append stretches (s ∷ [])

      -- the stretches so far, and the one behind them
      old-stretch : (k : ℕ) → k < length stretches → stretch_at (stretches ++ s ∷ []) k ≡ stretch_at stretches k
      old-stretch k l = get_or-append stretches (s ∷ []) (stretch_at [] 0) k l

      new-stretch : stretch_at (stretches ++ s ∷ []) (length stretches) ≡ s
      new-stretch = get_or-append_seam stretches s [] (stretch_at [] 0)

      old-place : (k : ℕ) → k < length stretches → (stretch_at (stretches ++ s ∷ []) k).place ≡ (stretch_at stretches k).place
      old-place k l = ap (λ (t : Stretch). t.place) (old-stretch k l)

      new-place : (stretch_at (stretches ++ s ∷ []) (length stretches)).place ≡ length claims
      new-place = ap (λ (t : Stretch). t.place) new-stretch ∙ place

      -- a claim so far stands in the stretch in which it stood
      is-old : (i k : ℕ) → i < length claims → IsStretchOf (stretches ++ s ∷ []) i k → (k < length stretches) × IsStretchOf stretches i k
      is-old i k l is = elim (cases_eq k (length stretches)) [
        | inl e ↦
            absurd (let here : (stretch_at (stretches ++ s ∷ []) k).place ≡ length claims =
            ap (λ j. (stretch_at (stretches ++ s ∷ []) j).place) e ∙ new-place in
            omega (arith, is.begun))
        | inr ne ↦
            let within : k < length stretches = omega (arith, is.within, more) in (
              within,
              record {
                within = within;
                begun = let b : (stretch_at (stretches ++ s ∷ []) k).place ≤ i = is.begun in omega (arith, old-place k within);
                last = λ j m n.
                    let b : i < (stretch_at (stretches ++ s ∷ []) j).place = is.last j m (omega (arith, more)) in
                    omega (arith, old-place j n);
              },
            )
      ]

      -- the claim behind the others stands in the stretch behind the others
      is-new : (k : ℕ) → IsStretchOf (stretches ++ s ∷ []) (length claims) k → k ≡ length stretches
      is-new k is = elim (cases_eq k (length stretches)) [
        | inl e ↦ e
        | inr ne ↦
            absurd (let behind : length claims < (stretch_at (stretches ++ s ∷ []) (length stretches)).place =
            is.last (length stretches) (omega (arith, is.within, more)) (omega (arith, more)) in
            omega (arith, new-place))
      ]

      -- the claim begins a stretch
      pub AreStretched-more : StandsIn s (length claims) claim → AreStretched (claims ++ claim ∷ []) (stretches ++ s ∷ [])
      AreStretched-more stands = record {
        few = omega (arith, size);
        some = λ _. omega (arith, more);
        first = first-push stretches s h.first (λ none. place ∙ no-claim none);
        within = λ k l.
            below_more (λ k. (stretch_at (stretches ++ s ∷ []) k).place < length (claims ++ claim ∷ [])) (length stretches)
            (λ k l. let old : (stretch_at stretches k).place < length claims = h.within k l in omega (arith, size, old-place k l))
            (omega (arith, new-place, size)) k (omega (arith, l, more));
        rise = λ j k m l.
            below_more (λ k. (j : ℕ) → j < k → (stretch_at (stretches ++ s ∷ []) j).place < (stretch_at (stretches ++ s ∷ []) k).place) (length stretches)
            (λ k l j m.
            let old : (stretch_at stretches j).place < (stretch_at stretches k).place = h.rise j k m l in
            omega (arith, old-place j (omega arith), old-place k l))
            (λ j m.
            let old : (stretch_at stretches j).place < length claims = h.within j m in
            omega (arith, old-place j m, new-place)) k (omega (arith, l, more)) j m;
        stand = λ i k l is.
            below_more (λ i. (k : ℕ) → IsStretchOf (stretches ++ s ∷ []) i k
            → StandsIn (stretch_at (stretches ++ s ∷ []) k) i (claim_at (claims ++ claim ∷ []) i)) (length claims)
            (λ i l k is.
            let (within, old) = is-old i k l is in
            subst (StandsIn (stretch_at (stretches ++ s ∷ []) k) i) (sym (old-claim i l))
            (subst (λ (t : Stretch). StandsIn t i (claim_at claims i)) (sym (old-stretch k within)) (h.stand i k l old)))
            (λ k is.
            subst (StandsIn (stretch_at (stretches ++ s ∷ []) k) (length claims)) (sym new-claim)
            (subst (λ (t : Stretch). StandsIn t (length claims) claim)
            (sym (ap (stretch_at (stretches ++ s ∷ [])) (is-new k is) ∙ new-stretch)) stands))
            i (omega (arith, l, size)) k is;
      }
