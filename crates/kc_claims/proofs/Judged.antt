-- Which claim stands first of those that the counts show to be wrong.
use Rattle.std.proofs.Common.{◌≡◌, ◌≢◌, ◌≤◌, ◌<◌, ◌+◌, ◌∙◌, ◌⊎◌, ℕ, Bool, List, None, Some, true, false}
use Rattle.std.proofs.Common.{ap, arith, inl, inr, length, refl, set, subst, sym}
use Rattle.std.proofs.lemmas.Bool.{cases_eq}
use Rattle.std.proofs.lemmas.List.{get_or-set_other, get_or-set_same, get_or_default}
use Rattle.kc_graph.specs.Peeling.{at}
use Rattle.kc_graph.proofs.Places.{length-enumerates}
use Rattle.kc_claims.specs.Certificates.{claim_at}
use Rattle.kc_claims.specs.Insisting.{HasCount, IsFirstUncounted}
use Rattle.kc_claims.specs.Judging.{AreCounted, HasEach, HasPlaces, IsFirstWrong, is_wrong, is_wrong_at, claim_place}
use Rattle.kc_claims.specs.Sweeping.{Agrees, IsFirstMiscount, IsMiscountOf}
use Rattle.kc_claims.specs.declared.claim.Claim.{Claim}
use Rattle.kc_claims.specs.declared.claimed.ClaimLines.{ClaimLines}
use Rattle.kc_claims.specs.declared.fault.ClaimFault.{ClaimFault}
use Rattle.kc_claims.specs.declared.judging.Wrong.{Wrong}
use Rattle.kc_claims.specs.declared.judging.Wrong.TheVariants.{Miscounted, Uncounted}
use Rattle.kc_claims.specs.declared.sweep.Sweep.{Sweep}

-- what is not wrong lies between
between : (core later supporters : ℕ) → is_wrong Miscounted core later supporters ≡ false → (later ≤ core) × (core ≤ supporters)
between core later supporters right = grind arith

-- what is wrong does not lie between
not-between : (core later supporters : ℕ) → is_wrong Miscounted core later supporters ≡ true → later ≤ core → core ≤ supporters → ⊥
not-between core later supporters wrong few enough = grind arith

-- where nothing is counted both counts are none
none-counted : (core later supporters : ℕ) → is_wrong Uncounted core later supporters ≡ true → (later ≡ 0) × (supporters ≡ 0)
none-counted core later supporters wrong = grind arith

-- and else one is some
one-counted : (core later supporters : ℕ) → is_wrong Uncounted core later supporters ≡ false → (0 < later) ⊎ (0 < supporters)
one-counted core later supporters right = grind arith

module _ (claims : List Claim) (order : List ℕ) (sweep : Sweep) (lines : ClaimLines) (h : AreCounted claims order sweep lines) where
  -- there are as many ids as claims, and as many numbers
  one-id : length sweep.ids.items ≡ length claims
  one-id = omega (arith, length-enumerates (length sweep.ids.items) order h.told.enumerates, h.told.all.one_each)

  pub one-number : length sweep.core.items ≡ length claims
  one-number = omega (arith, one-id, h.told.one_number)

  -- each vertex has a rank, a place and counts
  pub has-each : HasEach sweep lines.places
  has-each = record {
    few = omega (arith, one-number, h.stand.stretched.few);
    ranks = omega (arith, h.told.one_number, h.told.one_rank);
    placed = subst (HasPlaces lines.places) (h.told.all.one_each ∙ sym one-number) h.stand.places.each;
    later = h.later_each;
    supporters = h.supporters_each;
  }

  -- a vertex stands at a place
  place-of : (v : ℕ) → v < length sweep.core.items → (i : ℕ) × (i < length claims) × (at order i ≡ v)
  place-of v l =
      let (i, k, is) = h.told.enumerates.complete v (omega (arith, l, h.told.one_number)) in
      (i, omega (arith, k, h.told.all.one_each), get_or_default order i 0 v k ∙ is)

  -- the place at which the claim of a vertex is looked for is its own
  place-is : (i : ℕ) → i < length claims → claim_place lines.places sweep.rank.items (at order i) ≡ i
  place-is i l = h.stand.places.place i (omega (arith, l, h.told.all.one_each))

  pub vertex-at : (i : ℕ) → i < length claims → at order i < length sweep.core.items
  vertex-at i l = omega (arith, h.told.all.vertices i l, h.told.one_number)

  -- what a vertex is told is what the claim at its place tells
  pub vertex-place : (v : ℕ) → v < length sweep.core.items → (place : ℕ) → place ≡ claim_place lines.places sweep.rank.items v
      → (place < length claims) × (at order place ≡ v)
  vertex-place v l place here =
      let (i, k, is) = place-of v l in
      let same : place ≡ i = here ∙ sym (ap (claim_place lines.places sweep.rank.items) is) ∙ place-is i k in
      (omega (arith, same, k), ap (at order) same ∙ is)

  -- no two claims are of one vertex
  pub one-claim : (i j : ℕ) → i < length claims → j < length claims → at order i ≡ at order j → i ≡ j
  one-claim i j l k same = sym (place-is i l) ∙ ap (claim_place lines.places sweep.rank.items) same ∙ place-is j k

  -- where the claim of a vertex is put at its place, the claims of one vertex more stand at theirs
  pub claim-put : (v : ℕ) → v < length sweep.core.items → (place : ℕ) → place ≡ claim_place lines.places sweep.rank.items v → (told : List Claim)
      → length told ≡ length sweep.core.items → (claim : Claim) → ((i : ℕ) → i < length claims → at order i ≡ v → claim ≡ claim_at claims i)
      → ((i : ℕ) → i < length claims → at order i < v → claim_at told i ≡ claim_at claims i)
      → (i : ℕ) → i < length claims → at order i < v + 1 → claim_at (set told place claim) i ≡ claim_at claims i
  claim-put v l place here told size claim is before i k below =
      let (within, stands) = vertex-place v l place here in
      elim (cases_eq (at order i) v) [
        | inl e ↦
            let same : place ≡ i = one-claim place i within k (stands ∙ sym e) in
            ap (claim_at (set told place claim)) (sym same)
            ∙ get_or-set_same told place claim _ (omega (arith, size, within, one-number))
            ∙ is i k e
        | inr ne ↦
            let other : i ≢ place = λ same. ne (ap (at order) same ∙ stands) in
            get_or-set_other told place i claim _ other ∙ before i k (omega (arith, below, ne))
      ]

  -- a claim whose vertex is not wrong
  agree : (i : ℕ) → i < length claims → is_wrong_at Miscounted sweep (at order i) ≡ false
      → Agrees claims order sweep.later.items sweep.supporters.items i
  agree i l right =
      let (few, enough) = between (at sweep.core.items (at order i)) (at sweep.later.items (at order i)) (at sweep.supporters.items (at order i)) right in
      (omega (arith, few, h.told.all.numbers i l), omega (arith, enough, h.told.all.numbers i l))

  -- where no vertex is wrong all claims agree
  pub agree-all : IsFirstWrong Miscounted sweep lines.places (length sweep.core.items) None → (i : ℕ) → i < length claims
      → Agrees claims order sweep.later.items sweep.supporters.items i
  agree-all right i l = agree i l (right (at order i) (vertex-at i l))

  -- and where something is counted of each vertex, it is so of those of all claims
  pub counted-all : IsFirstWrong Uncounted sweep lines.places (length sweep.core.items) None → (i : ℕ) → i < length claims
      → HasCount sweep.later.items sweep.supporters.items (at order i)
  counted-all right i l =
      one-counted (at sweep.core.items (at order i)) (at sweep.later.items (at order i)) (at sweep.supporters.items (at order i))
      (right (at order i) (vertex-at i l))

  module _ (wrong : Wrong) (v : ℕ) (first : IsFirstWrong wrong sweep lines.places (length sweep.core.items) (Some v)) where
    -- the claims before the first that is wrong are not
    right-before : (place : ℕ) → place < length claims → at order place ≡ v → (i : ℕ) → i < place → is_wrong_at wrong sweep (at order i) ≡ false
    right-before place within is i l = go (is_wrong_at wrong sweep (at order i)) refl
      where
        go : (b : Bool) → is_wrong_at wrong sweep (at order i) ≡ b → is_wrong_at wrong sweep (at order i) ≡ false
        go false e = e
        go true e =
            absurd (let k : i < length claims = omega (arith, l, within) in
            let later : claim_place lines.places sweep.rank.items v ≤ claim_place lines.places sweep.rank.items (at order i) =
            first.2 (at order i) (vertex-at i k) e in
            omega (arith, later, place-is i k, place-is place within, ap (claim_place lines.places sweep.rank.items) is))

  -- a claim of a vertex
  module _ (v : ℕ) (claim : Claim) (told : (i : ℕ) → i < length claims → at order i ≡ v → claim ≡ claim_at claims i) where
    -- the claim of the first vertex that is miscounted is the first that does not agree
    pub first-miscount : IsFirstWrong Miscounted sweep lines.places (length sweep.core.items) (Some v) → (fault : ClaimFault)
        → IsMiscountOf claim (at sweep.later.items v) (at sweep.supporters.items v) fault
        → IsFirstMiscount claims order sweep.later.items sweep.supporters.items fault
    first-miscount first fault here =
        let (place, within, is) = place-of v first.0 in
        record {
          place = place;
          within = within;
          here =
              subst (λ (c : Claim). IsMiscountOf c (at sweep.later.items (at order place)) (at sweep.supporters.items (at order place)) fault)
              (told place within is)
              (subst (λ u. IsMiscountOf claim (at sweep.later.items u) (at sweep.supporters.items u) fault) (sym is) here);
          before = λ i l. agree i (omega (arith, l, within)) (right-before Miscounted v first place within is i l);
        }

    -- the claim of the first vertex of which nothing is counted is the first such one
    pub first-uncounted : IsFirstWrong Uncounted sweep lines.places (length sweep.core.items) (Some v)
        → IsFirstUncounted claims order sweep.later.items sweep.supporters.items claim
    first-uncounted first =
        let (place, within, is) = place-of v first.0 in
        let (later, supported) = none-counted (at sweep.core.items v) (at sweep.later.items v) (at sweep.supporters.items v) first.1 in
        record {
          place = place;
          within = within;
          is = told place within is;
          no_later = ap (at sweep.later.items) is ∙ later;
          no_supporter = ap (at sweep.supporters.items) is ∙ supported;
          before = λ i l.
              one-counted (at sweep.core.items (at order i)) (at sweep.later.items (at order i)) (at sweep.supporters.items (at order i))
              (right-before Uncounted v first place within is i l);
        }

    -- where it is miscounted its number does not lie between the counts
    pub miscounted-not : IsFirstWrong Miscounted sweep lines.places (length sweep.core.items) (Some v) → (later supporting : ℕ)
        → later ≡ at sweep.later.items v → supporting ≡ at sweep.supporters.items v → (later ≤ claim.number) × (claim.number ≤ supporting) → ⊥
    miscounted-not first later supporting few enough (low, high) =
        let (place, within, is) = place-of v first.0 in
        let number : claim.number ≡ at sweep.core.items v =
        ap (λ (c : Claim). c.number) (told place within is) ∙ sym (h.told.all.numbers place within) ∙ ap (at sweep.core.items) is in
        not-between (at sweep.core.items v) (at sweep.later.items v) (at sweep.supporters.items v) first.1 (omega (arith, low, few, number))
        (omega (arith, high, enough, number))
