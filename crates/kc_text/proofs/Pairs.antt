-- Lists of pairs that are sorted and lose their repeats.
use Rattle.std.proofs.Common.{◌≡◌, ℕ, Bool, true, List, refl, sym, ap, ◌∙◌, eqb, ◌&&◌, eqb-true, eq-eqb, ap₂}
use Rattle.std.specs.Prelude.{Contains}
use Rattle.std.specs.List.{list_any, dedup}
use Rattle.std.specs.List.Sorted.{IsPermutation}
use Rattle.std.specs.Cmp.{IsEquivalence, both_ways}
use Rattle.std.specs.FinSet as set
use Rattle.std.specs.Ordering.{eq_by_cmp}
use Rattle.std.proofs.lemmas.List.Folds.{Any-from_list_any, list_any-from_Any}
use Rattle.std.proofs.lemmas.List.Kept.{Contains-dedup, Contains-from_dedup}
use Rattle.std.proofs.lemmas.List.Sorted.{list_any-IsPermutation}
use Rattle.kc_graph.specs.SimpleGraph.{pair_cmp}
use Rattle.std.proofs.lemmas.Bool.{and_parts, and_from}
use Rattle.kc_graph.proofs.RowsLemmas.{pair_total, pair_exact, same_pair, tied_pair}

-- a test that an element at a place passes is passed by one of the list
any_from_place : {X : Type 0} (p : X → Bool) (xs : List X) (y : X) → Contains xs y → p y ≡ true → list_any p xs ≡ true
any_from_place p xs y h t = list_any-from_Any p xs (h.0, y, h.1, h.2, t)

-- whether one of a list passes a test is the same without the repeats beside one another
pub any-dedup : {X : Type 0} {E : X → X → Bool} → IsEquivalence E → ((x y : X) → E x y ≡ true → x ≡ y) → (p : X → Bool) (xs : List X)
    → list_any p (dedup E xs) ≡ list_any p xs
any-dedup {E = E} e same p xs = both_ways _ _
    (λ h. let (k, y, l, i, t) = Any-from_list_any p (dedup E xs) h in any_from_place p xs y (Contains-from_dedup E xs y (k, l, i)) t)
    (λ h. let (k, y, l, i, t) = Any-from_list_any p xs h in any_from_place p (dedup E xs) y (Contains-dedup e same xs y (k, l, i)) t)

-- pairs in another order and without repeats are the same set of edges
pub same_edges : {E : ℕ × ℕ → ℕ × ℕ → Bool} → IsEquivalence E → ((x y : ℕ × ℕ) → E x y ≡ true → x ≡ y) → (xs ys : List (ℕ × ℕ)) → IsPermutation xs ys
    → set.from_list {R = pair_cmp} (dedup E ys) ≡ set.from_list xs
same_edges {E = E} e same xs ys h = set.same_set pair_total pair_exact _ _ (λ q.
    set.contains-from_list pair_total (dedup E ys) q ∙ any-dedup e same (eq_by_cmp pair_cmp q) ys
    ∙ sym (list_any-IsPermutation (eq_by_cmp pair_cmp q) xs ys h) ∙ sym (set.contains-from_list pair_total xs q))

-- whether two pairs are equal, end by end
abbrev pub pair_eq : ℕ × ℕ → ℕ × ℕ → Bool
pair_eq x y = eqb x.0 y.0 && eqb x.1 y.1

-- pairs that are found equal are equal
pub equal_pair : (x y : ℕ × ℕ) → pair_eq x y ≡ true → x ≡ y
equal_pair x y h = let t = and_parts (eqb x.0 y.0) (eqb x.1 y.1) h in ap₂ (λ (a b : ℕ). (a, b)) (eqb-true x.0 y.0 t.0) (eqb-true x.1 y.1 t.1)

-- equal pairs are found equal
pair_equal : (x y : ℕ × ℕ) → x ≡ y → pair_eq x y ≡ true
pair_equal x y e = and_from (eqb x.0 y.0) (eqb x.1 y.1) (eq-eqb x.0 y.0 (ap (λ (p : ℕ × ℕ). p.0) e)) (eq-eqb x.1 y.1 (ap (λ (p : ℕ × ℕ). p.1) e))

-- pairs are found equal just where neither stands before the other in their order
pub pair_ties : (x y : ℕ × ℕ) → pair_eq x y ≡ eq_by_cmp pair_cmp x y
pair_ties x y = both_ways _ _ (λ h. tied_pair x y (equal_pair x y h)) (λ h. pair_equal x y (same_pair x y h))

-- to be found equal is an equivalence of pairs
pub pair_equiv : IsEquivalence pair_eq
pair_equiv = record {
  refl = λ x. pair_equal x x refl;
  symm = λ x y. both_ways _ _ (λ h. pair_equal y x (sym (equal_pair x y h))) (λ h. pair_equal x y (sym (equal_pair y x h)));
  congr = λ x y z h. ap (λ (p : ℕ × ℕ). pair_eq p z) (equal_pair x y h);
}
