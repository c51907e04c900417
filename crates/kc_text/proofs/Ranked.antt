-- Updates that are overruled are found beside one another among the sorted ranks.
use Rattle.std.proofs.Common.{◌≡◌, ◌≤◌, ◌<◌, ◌+◌, ◌*◌, ◌-◌, ◌/◌, ◌%◌, ℕ, suc, zero, Bool, true, false, List, length, drop, get_or, sym, ap, ap₂, subst}
use Rattle.std.proofs.Common.{◌∙◌, arith, eqb-true, eq-eqb, inl, inr, length-drop, Result, Ok, Err}
use Rattle.std.specs.Prelude.{All, Contains, IfOk}
use Rattle.std.specs.Cmp.{both_ways}
use Rattle.std.specs.List.{list_any}
use Rattle.std.specs.List.Sorted.{IsNonDecreasingBy, IsPermutation}
use Rattle.std.proofs.lemmas.Bool.{and_from, and_parts, cases_lt}
use Rattle.std.proofs.lemmas.List.{get_or-drop, get_or_default}
use Rattle.std.proofs.lemmas.List.Elements.{Contains-get_or}
use Rattle.std.proofs.lemmas.List.Folds.{Any-from_list_any, list_any_at}
use Rattle.std.proofs.lemmas.List.Sorted.{All-permutation, Contains-permutation, IsPermutation-sym}
use Rattle.kc_graph.specs.declared.update.Update.{Update}
use Rattle.kc_text.specs.Deciding.{AreOfOneEdge, AreOverruled, AreRanks, MarksFollowed, rank}
use Rattle.kc_text.specs.LastUpdates.{same_edge}
use Rattle.kc_text.specs.declared.overruling.TheConstants.{NUMBERS}

-- two results of one call hold together
pub both-ok : {X E : Type 0} {P Q R : X → Type 0} (r : Result X E) → IfOk r P → IfOk r Q → ((x : X) → P x → Q x → R x) → IfOk r R
both-ok (Ok x) p q f = f x p q
both-ok (Err e) p q f = tt

-- a rank's rest by the most updates to decide is its place
rank-place : (x : Update) (i : ℕ) → i < NUMBERS → rank x i % NUMBERS ≡ i
rank-place x i l = omega arith

-- a number that is known to be a rank has its place as its rest by the most updates
place-at : (r : ℕ) (x : Update) (i : ℕ) → i < NUMBERS → r ≡ rank x i → r % NUMBERS ≡ i
place-at r x i l e = ap (λ n. n % NUMBERS) e ∙ rank-place x i l

-- a rank divided by the most updates to decide is the number of its edge
rank-edge : (x : Update) (i : ℕ) → i < NUMBERS → rank x i / NUMBERS ≡ x.u * NUMBERS + x.v
rank-edge x i l = omega arith

-- ranks of one edge are of updates of one edge
edge-same : (x y : Update) (i j : ℕ) → x.v < NUMBERS → y.v < NUMBERS → i < NUMBERS → j < NUMBERS
    → rank x i / NUMBERS ≡ rank y j / NUMBERS → same_edge x y ≡ true
edge-same x y i j lx ly li lj e =
    let same : x.u * NUMBERS + x.v ≡ y.u * NUMBERS + y.v = sym (rank-edge x i li) ∙ (e ∙ rank-edge y j lj) in
    and_from _ _ (eq-eqb x.u y.u (omega arith)) (eq-eqb x.v y.v (omega arith))

-- the other way round: updates of one edge have ranks of one edge
same-edge : (x y : Update) (i j : ℕ) → i < NUMBERS → j < NUMBERS → same_edge x y ≡ true → rank x i / NUMBERS ≡ rank y j / NUMBERS
same-edge x y i j li lj h =
    let (u, v) = and_parts _ _ h in
    rank-edge x i li ∙ (ap₂ (λ (a b : ℕ). a * NUMBERS + b) (eqb-true x.u y.u u) (eqb-true x.v y.v v) ∙ sym (rank-edge y j lj))

-- where the elements that are not above one end, before a greater one
record LastOf (xs : List ℕ) (a b : ℕ) : Type 0 where
  at : ℕ
  within : at + 1 < length xs
  is : get_or xs at 0 ≡ a
  above : a < get_or xs (at + 1) 0
  reach : get_or xs (at + 1) 0 ≤ b

-- an element with a greater one behind it has a last place, where the next is greater and not above that one
last-of : (xs : List ℕ) (a b n t : ℕ) → IsNonDecreasingBy (λ (x : ℕ). x) xs → t + n < length xs → get_or xs t 0 ≡ a → get_or xs (t + n) 0 ≡ b → a < b
    → LastOf xs a b
last-of xs a b zero t up l first last less = absurd (omega (arith, ap (λ k. get_or xs k 0) (let e : t + 0 ≡ t = omega arith in e)))
last-of xs a b (suc n) t up l first last less = elim (cases_lt a (get_or xs (t + 1) 0)) [
  | inl above ↦ record {
    at = t;
    within = omega arith;
    is = first;
    above = above;
    reach = omega (arith, up (t + 1) (t + suc n) 0 (omega arith) l);
  }
  | inr not ↦ last-of xs a b n (t + 1) up (omega arith) (let next = up t (t + 1) 0 (omega arith) (omega arith) in omega arith)
      (ap (λ k. get_or xs k 0) (let e : t + 1 + n ≡ t + suc n = omega arith in e) ∙ last) less
]

-- two elements, the greater one behind the other
record Stand (xs : List ℕ) (a b : ℕ) : Type 0 where
  first : ℕ
  gap : ℕ
  within : first + gap < length xs
  is : get_or xs first 0 ≡ a
  there : get_or xs (first + gap) 0 ≡ b

-- of two elements of an ascending list, the greater one stands behind the other
greater-behind : (xs : List ℕ) (a b : ℕ) → IsNonDecreasingBy (λ (x : ℕ). x) xs → Contains xs a → Contains xs b → a < b → Stand xs a b
greater-behind xs a b up (i, li, ei) (j, lj, ej) less =
    let at_i : get_or xs i 0 ≡ a = get_or_default xs i 0 a li ∙ ei in
    let at_j : get_or xs j 0 ≡ b = get_or_default xs j 0 b lj ∙ ej in
    elim (cases_lt i j) [
      | inl before ↦
          let place : i + (j - i) ≡ j = omega arith in
          record { first = i; gap = j - i; within = omega arith; is = at_i; there = ap (λ k. get_or xs k 0) place ∙ at_j }
      | inr not ↦ absurd (let fall = up j i 0 not li in omega arith)
    ]

-- an update in place of one that is missing
no_update : Update
no_update = record { add = false; u = 0; v = 1; ordered = omega arith }

-- the ranks of updates, and the same in order
record AreSorted (updates : List Update) (ranks sorted : List ℕ) : Type 0 where
  short : length updates ≤ NUMBERS
  ranked : AreRanks updates ranks
  moved : IsPermutation ranks sorted
  up : IsNonDecreasingBy (λ (x : ℕ). x) sorted

-- a sorted rank is that of an update
record IsRankOf (updates : List Update) (r : ℕ) : Type 0 where
  place : ℕ
  within : place < length updates
  is : r ≡ rank (get_or updates place no_update) place

-- each sorted rank is the rank of an update
rank-of : (updates : List Update) (ranks sorted : List ℕ) → AreSorted updates ranks sorted → (k : ℕ) → k < length sorted → IsRankOf updates (get_or sorted k 0)
rank-of updates ranks sorted are k l =
    let (i, li, e) = Contains-permutation sorted ranks (get_or sorted k 0) (IsPermutation-sym ranks sorted are.moved) (Contains-get_or sorted k 0 l) in
    let l' : i < length updates = omega (arith, are.ranked.count) in
    record { place = i; within = l'; is = sym e ∙ (get_or_default ranks i (get_or sorted k 0) 0 li ∙ are.ranked.each i no_update l') }

-- the rank of an update is among the sorted ones
sorted-has : (updates : List Update) (ranks sorted : List ℕ) → AreSorted updates ranks sorted → (i : ℕ) (x : Update) → i < length updates
    → Contains sorted (rank (get_or updates i x) i)
sorted-has updates ranks sorted are i x l =
    Contains-permutation ranks sorted _ are.moved (subst (Contains ranks) (are.ranked.each i x l) (Contains-get_or ranks i 0 (omega (arith, are.ranked.count))))

-- a mark tells of a later update of the same edge
marked-again : (updates : List Update) (ranks sorted : List ℕ) → AreSorted updates ranks sorted → (k i : ℕ) (x : Update) → i < length updates
    → k + 1 < length sorted
    → AreOfOneEdge (get_or sorted k 0) (get_or sorted (k + 1) 0) → get_or sorted k 0 % NUMBERS ≡ i
    → list_any (same_edge (get_or updates i x)) (drop (i + 1) updates) ≡ true
marked-again updates ranks sorted are k i x l lk (less, edge) at =
    let first = rank-of updates ranks sorted are k (omega arith) in
    let next = rank-of updates ranks sorted are (k + 1) lk in
    let here : first.place ≡ i = sym (rank-place (get_or updates first.place no_update) first.place (omega (arith, first.within, are.short)))
    ∙ (ap (λ r. r % NUMBERS) (sym first.is) ∙ at) in
    let ranks-of_one : rank (get_or updates first.place no_update) first.place / NUMBERS ≡ rank
    (get_or updates next.place no_update) next.place / NUMBERS =
    ap (λ r. r / NUMBERS) (sym first.is) ∙ (edge ∙ ap (λ r. r / NUMBERS) next.is) in
    let same : same_edge (get_or updates first.place no_update) (get_or updates next.place no_update) ≡ true =
    edge-same (get_or updates first.place no_update) (get_or updates next.place no_update) first.place next.place
    (are.ranked.ends first.place no_update first.within) (are.ranked.ends next.place no_update next.within) (omega (arith, first.within, are.short))
    (omega (arith, next.within, are.short)) ranks-of_one in
    let a : rank (get_or updates first.place no_update) first.place < rank (get_or updates next.place no_update) next.place =
    omega (arith, first.is, next.is) in
    let below : first.place < next.place = omega (
      arith,
      a,
      rank-edge (get_or updates first.place no_update) first.place (omega (arith, first.within, are.short)),
      rank-edge (get_or updates next.place no_update) next.place (omega (arith, next.within, are.short)),
      ranks-of_one,
    ) in
    let j : ℕ = next.place - (i + 1) in
    let there : get_or (drop (i + 1) updates) j no_update ≡ get_or updates next.place no_update = get_or-drop (i + 1) updates j no_update
    ∙ ap (λ n. get_or updates n no_update) (let e : i + 1 + j ≡ next.place = omega arith in e) in
    let mine : get_or updates i x ≡ get_or updates first.place no_update = get_or_default updates i x no_update l
    ∙ ap (λ n. get_or updates n no_update) (sym here) in
    list_any_at (same_edge (get_or updates i x)) (drop (i + 1) updates) j no_update (omega (arith, length-drop (i + 1) updates, next.within))
    (ap₂ same_edge mine there ∙ same)

-- a rank before a greater one of the same edge is marked
mark-found : (sorted : List ℕ) (marks : List Bool) (x : Update) (i b : ℕ) → MarksFollowed sorted marks → i < NUMBERS
    → rank x i / NUMBERS ≡ b / NUMBERS → LastOf sorted (rank x i) b
    → get_or marks i false ≡ true
mark-found sorted marks x i b followed l edge t =
    let next : get_or sorted t.at 0 / NUMBERS ≡ get_or sorted (t.at + 1) 0 / NUMBERS = omega (arith, edge, t.is, t.above, t.reach) in
    subst (λ n. get_or marks n false ≡ true) (place-at (get_or sorted t.at 0) x i l t.is) (followed.complete t.at t.within (omega (arith, t.is, t.above), next))

-- an update with a later one of the same edge is marked
again-marked : (updates : List Update) (ranks sorted : List ℕ) (marks : List Bool) → AreSorted updates ranks sorted → MarksFollowed sorted marks
    → (i : ℕ) (x : Update) → i < length updates
    → list_any (same_edge (get_or updates i x)) (drop (i + 1) updates) ≡ true → get_or marks i false ≡ true
again-marked updates ranks sorted marks are followed i x l again =
    let (k, y, lk, ey, same) = Any-from_list_any (same_edge (get_or updates i x)) (drop (i + 1) updates) again in
    let j : ℕ = i + 1 + k in
    let lj : j < length updates = omega (arith, length-drop (i + 1) updates) in
    let there : get_or updates j y ≡ y = sym (get_or-drop (i + 1) updates k y) ∙ ey in
    let a : ℕ = rank (get_or updates i x) i in
    let b : ℕ = rank (get_or updates j y) j in
    let li : i < NUMBERS = omega (arith, are.short) in
    let lj' : j < NUMBERS = omega (arith, are.short, lj) in
    let edge : a / NUMBERS ≡ b / NUMBERS = same-edge (get_or updates i x) (get_or updates j y) i j li lj'
    (ap (same_edge (get_or updates i x)) there ∙ same) in
    let less : a < b = omega (arith, edge, rank-place (get_or updates i x) i li, rank-place (get_or updates j y) j lj') in
    let s = greater-behind sorted a b are.up (sorted-has updates ranks sorted are i x l) (sorted-has updates ranks sorted are j y lj) less in
    mark-found sorted marks (get_or updates i x) i b followed li edge (last-of sorted a b s.gap s.first are.up s.within s.is s.there less)

-- the places of the ranks are those of updates
pub places-within : (updates : List Update) (ranks sorted : List ℕ) → length updates ≤ NUMBERS → AreRanks updates ranks → IsPermutation ranks sorted
    → All (λ r. r % NUMBERS < length updates) sorted
places-within updates ranks sorted short ranked moved = All-permutation (λ r. r % NUMBERS < length updates) ranks sorted moved (λ i d l.
    let l' : i < length updates = omega (arith, ranked.count) in
    omega (arith, get_or_default ranks i d 0 l, ranked.each i no_update l', rank-place (get_or updates i no_update) i (omega arith)))

-- what is marked among the sorted ranks is overruled
pub overruled-are : (updates : List Update) (ranks sorted : List ℕ) (marks : List Bool) → length updates ≤ NUMBERS → AreRanks updates ranks
    → IsPermutation ranks sorted
    → IsNonDecreasingBy (λ (x : ℕ). x) sorted → length marks ≡ length updates → MarksFollowed sorted marks → AreOverruled updates marks
overruled-are updates ranks sorted marks short ranked moved up count followed =
    let are : AreSorted updates ranks sorted = record { short = short; ranked = ranked; moved = moved; up = up } in
    record {
      count = count;
      each = λ i x l. both_ways _ _
          (λ marked. let (k, lk, of_one, at) = followed.sound i marked in marked-again updates ranks sorted are k i x l lk of_one at)
          (λ again. again-marked updates ranks sorted marks are followed i x l again);
    }
