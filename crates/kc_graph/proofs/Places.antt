-- The place of each number of a list.
use Rattle.std.proofs.Common.{◌≡◌, ◌<◌, ◌+◌, ℕ, suc, zero, Bool, true, false, cond, List, [], ◌∷◌, length, get_or, set, eqb, refl, sym, ◌∙◌, ap, inl}
use Rattle.std.proofs.Common.{inr, arith, true≢false, length-set, eq-eqb, ne_eqb}
use Rattle.std.proofs.lemmas.Bool.{cases_eq}
use Rattle.std.proofs.lemmas.List.{get_or-set_same, get_or-set_other}
use Rattle.std.proofs.lemmas.List.Elements.{All-contains}
use Rattle.kc_lists.specs.Lists.{member, Distinct, below, place_of}
use Rattle.kc_lists.proofs.Members.{below_bound}
use Rattle.kc_lists.proofs.Counting.{member-get_or, Contains-from_member, member-from_Contains, Distinct-from_pairs, count-all, count-le}
use Rattle.kc_lists.proofs.Counting.{Distinct-below, below-member, length-below}
use Rattle.kc_graph.specs.Certificate.{Enumerates}
use Rattle.kc_graph.specs.Lawful.{ArePlaces}
use Rattle.kc_lists.proofs.Shared.{get_or-any}

-- the first places are known
pub record PlacedTo (n i : ℕ) (order places : List ℕ) : Type 0 where
  pub one_each : length places ≡ n
  pub right : (k : ℕ) → k < i → get_or places (get_or order k 0) 0 ≡ k

-- an order of the vertices has as many of them as there are
pub length-enumerates : (n : ℕ) (order : List ℕ) → Enumerates n order → length order ≡ n
length-enumerates n order e =
    let yes : ℕ → Bool = λ _. true in
    let d : Distinct order = Distinct-from_pairs order e.distinct in
    let within : (x : ℕ) → member x order ≡ true → x < n = λ x m. All-contains (λ v. v < n) order x e.below (Contains-from_member order x m) in
    omega (
      arith,
      below_bound n order d within,
      count-all yes order (λ _ _. refl),
      count-all yes (below n) (λ _ _. refl),
      length-below n,
      count-le yes (below n) order (Distinct-below n) (λ x m _. member-from_Contains order x (e.complete x (below-member x n m))),
    )

-- what stands in an order of the vertices is a vertex
pub in_order : (n : ℕ) (order : List ℕ) (i : ℕ) → Enumerates n order → i < length order → get_or order i 0 < n
in_order n order i e l = e.below i 0 l

-- no place is known at the beginning
pub placed_none : (n : ℕ) (order places : List ℕ) → length places ≡ n → PlacedTo n 0 order places
placed_none n order places h = record { one_each = h; right = λ k l. absurd (omega arith) }

-- the place of one more vertex is known once it is written
pub placed_more : (n i : ℕ) (order places : List ℕ) → Enumerates n order → i < length order → PlacedTo n i order places
    → PlacedTo n (i + 1) order (set places (get_or order i 0) i)
placed_more n i order places e l h =
    let v : ℕ = get_or order i 0 in
    let in' : v < length places = omega (arith, in_order n order i e l, h.one_each) in
    record {
      one_each = length-set places v i ∙ h.one_each;
      right = λ k lk. elim (cases_eq k i) [
        | inl k-i ↦ ap (λ j. get_or (set places v i) (get_or order j 0) 0) k-i ∙ get_or-set_same places v i 0 in' ∙ sym k-i
        | inr ne ↦ get_or-set_other places v (get_or order k 0) i 0 (e.distinct k i 0 (omega arith) l) ∙ h.right k (omega arith)
      ];
    }

-- once all are written, the places are those of the order
pub placed_all : (n : ℕ) (order places : List ℕ) → Enumerates n order → PlacedTo n (length order) order places → ArePlaces order places
placed_all n order places e h =
    let m : length order ≡ n = length-enumerates n order e in
    let stands : (v : ℕ) → v < length order → (get_or places v 0 < length order) × (get_or order (get_or places v 0) 0 ≡ v) = λ v l.
    let (k, lk, at-k) = e.complete v (omega arith) in
    let is : get_or order k 0 ≡ v = get_or-any order k 0 v lk ∙ at-k in
    let place : get_or places v 0 ≡ k = ap (λ x. get_or places x 0) (sym is) ∙ h.right k lk in
    (omega arith, ap (λ j. get_or order j 0) place ∙ is) in
    record { one_each = h.one_each ∙ sym m; within = λ v l. (stands v l).0; right = λ v l. (stands v l).1 }

-- how many stand before what stands at a place
pub place_of-at : (xs : List ℕ) (k : ℕ) → Distinct xs → k < length xs → place_of (get_or xs k 0) xs ≡ k
place_of-at [] k d l = absurd (omega arith)
place_of-at (x ∷ xs) zero d l = ap (λ t. cond t 0 (suc (place_of x xs))) (eq-eqb x x refl)
place_of-at (x ∷ xs) (suc k) d l =
    let w : ℕ = get_or xs k 0 in
    let other : eqb w x ≡ false = ne_eqb w x (λ e. true≢false (sym (member-get_or xs k 0 (omega arith)) ∙ (ap (λ n. member n xs) e ∙ d.0))) in
    ap (λ t. cond t 0 (suc (place_of w xs))) other ∙ ap suc (place_of-at xs k d.1 (omega arith))
