-- Ids that ascend are told apart by their places.
use Rattle.std.proofs.Common.{◌≡◌, ◌≢◌, ◌≤◌, ◌<◌, ◌+◌, ◌-◌, ◌∙◌, ℕ, zero, suc, Bool, List, false, true, add-zero, ap, arith, inl, inr, length, refl, zero-add}
use Rattle.std.proofs.lemmas.List.{get_or_default}
use Rattle.std.specs.List.Sorted.{IsStrictlyIncreasing}
use Rattle.std.proofs.lemmas.Bool.{cases_order}
use Rattle.kc_lists.specs.Lists.{member}
use Rattle.kc_lists.proofs.Counting.{Contains-from_member}
use Rattle.kc_lists.proofs.Shared.{never_falls}
use Rattle.kc_graph.specs.Peeling.{at}
use Rattle.kc_claims.specs.Places.{IsRow}

module _ (ids : List ℕ) (up : IsStrictlyIncreasing ids) where
  -- a later id is greater
  pub ids-rise : (i j : ℕ) → i < j → j < length ids → at ids i < at ids j
  ids-rise i j l k = omega (arith, up i (omega arith), never_falls ids up (i + 1) j (omega arith) k)

  -- the same id stands at the same place
  pub ids-apart : (i j : ℕ) → i < length ids → j < length ids → at ids i ≡ at ids j → i ≡ j
  ids-apart i j l k same = elim (cases_order i j) [
    | inl e ↦ e
    | inr o ↦ elim o [ inl m ↦ absurd (omega (arith, ids-rise i j m k)) | inr m ↦ absurd (omega (arith, ids-rise j i m l)) ]
  ]

-- an id stands at some place
pub id-place : (ids : List ℕ) (id : ℕ) → member id ids ≡ true → (v : ℕ) × (v < length ids) × (at ids v ≡ id)
id-place ids id m =
    let (v, l, is) = Contains-from_member ids id m in
    (v, l, get_or_default ids v 0 id l ∙ is)

-- a number that stands at no place is no id
pub no_id : (ids : List ℕ) (id : ℕ) → ((v : ℕ) → v < length ids → at ids v ≢ id) → member id ids ≡ false
no_id ids id none = go (member id ids) refl
  where
    go : (b : Bool) → member id ids ≡ b → member id ids ≡ false
    go false is = is
    go true is = absurd (let (v, l, at_v) = id-place ids id is in none v l at_v)

-- ids that ascend rise by one at least from place to place
rises-by : (ids : List ℕ) → IsStrictlyIncreasing ids → (v d : ℕ) → v + d < length ids → at ids v + d ≤ at ids (v + d)
rises-by ids up v zero l = omega (arith, ap (at ids) (add-zero v))
rises-by ids up v (suc d) l =
    let before : at ids v + d ≤ at ids (v + d) = rises-by ids up v d (omega arith) in
    let next : at ids (v + d) < at ids (v + suc d) = ids-rise ids up (v + d) (v + suc d) (omega arith) l in
    omega arith

-- ids that ascend are a row where the last one is as far from the first as its place
pub IsRow-ends : (ids : List ℕ) (first greatest : ℕ) → IsStrictlyIncreasing ids → at ids 0 ≡ first → at ids (length ids - 1) ≡ greatest
    → (greatest - first) + 1 ≡ length ids → IsRow ids first
IsRow-ends ids first greatest up begins ends long v l =
    let low : at ids 0 + v ≤ at ids (0 + v) = rises-by ids up 0 v (omega arith) in
    let high : at ids v + (length ids - 1 - v) ≤ at ids (v + (length ids - 1 - v)) = rises-by ids up v (length ids - 1 - v) (omega arith) in
    let front : at ids (0 + v) ≡ at ids v = ap (at ids) (zero-add v) in
    let back : at ids (v + (length ids - 1 - v)) ≡ at ids (length ids - 1) =
    ap (at ids) (let e : v + (length ids - 1 - v) ≡ length ids - 1 = omega arith in e) in
    let whole : at ids 0 + (length ids - 1) ≤ at ids (0 + (length ids - 1)) = rises-by ids up 0 (length ids - 1) (omega arith) in
    let end : at ids (0 + (length ids - 1)) ≡ at ids (length ids - 1) = ap (at ids) (zero-add (length ids - 1)) in
    omega (arith, low, high, front, back, whole, end, begins, ends, long)
