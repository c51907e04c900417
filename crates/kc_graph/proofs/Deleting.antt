-- A number goes out of an ascending row.
use Rattle.std.proofs.Common.{◌≡◌, ◌<◌, ◌+◌, ℕ, suc, Bool, true, false, not, ◌&&◌, ◌||◌, List, ◌∷◌, ◌++◌, length, get_or, take, drop, eqb, refl, sym}
use Rattle.std.proofs.Common.{◌∙◌, ap, inl, inr, arith, true≢false, take-append-drop, eq-eqb, eqb-true}
use Rattle.std.specs.List.{remove}
use Rattle.std.specs.List.Sorted.{IsStrictlyIncreasing}
use Rattle.std.proofs.lemmas.Bool.{cases_eq, cases_lt, false_from_ne_true, or_right}
use Rattle.std.proofs.lemmas.List.{take_more}
use Rattle.std.proofs.lemmas.List.Edits.{length-remove, get_or-remove_below, get_or-remove_above}
use Rattle.std.proofs.lemmas.List.Folds.{list_any-append}
use Rattle.std.proofs.Math.Seq.{drop-cons}
use Rattle.kc_lists.specs.Lists.{member, Distinct}
use Rattle.kc_lists.proofs.Counting.{member-push, drop-not_take, take-not_here}
use Rattle.kc_graph.specs.Rows.{Deleted}
use Rattle.kc_graph.proofs.RowsLemmas.{Distinct-from_increasing}

-- to be in front or behind is to be in the whole list but not the number itself, where that stands in neither
number-dropped : (a b e : Bool) → (e ≡ true → (a ≡ false) × (b ≡ false)) → (a || b) ≡ ((a || (e || b)) && not e)
number-dropped true b true h = absurd (true≢false (h refl).0)
number-dropped false true true h = absurd (true≢false (h refl).1)
number-dropped false false true h = refl
number-dropped true true false h = refl
number-dropped true false false h = refl
number-dropped false true false h = refl
number-dropped false false false h = refl

-- a list is what stands before a place, what stands there, and what stands behind
place-parts : (xs : List ℕ) (i : ℕ) → i < length xs → take i xs ++ get_or xs i 0 ∷ drop (suc i) xs ≡ xs
place-parts xs i l = ap (λ (t : List ℕ). take i xs ++ t) (sym (drop-cons xs i 0 l)) ∙ take-append-drop i xs

-- in a list of distinct numbers, what stands at a place stands neither before it nor behind it
only_here : (xs : List ℕ) (i : ℕ) → i < length xs → Distinct xs
    → (member (get_or xs i 0) (take i xs) ≡ false) × (member (get_or xs i 0) (drop (suc i) xs) ≡ false)
only_here xs i l d =
    let w : ℕ = get_or xs i 0 in
    let next : i + 1 ≡ suc i = omega arith in
    let early : member w (take (i + 1) xs) ≡ true = ap (member w) (take_more xs i 0 l)
    ∙ (member-push w w (take i xs) ∙ or_right (member w (take i xs)) (eqb w w) (eq-eqb w w refl)) in (
      take-not_here i xs l d,
      false_from_ne_true (member w (drop (suc i) xs))
          (λ m. true≢false (sym (ap (λ n. member w (take n xs)) (sym next) ∙ early) ∙ drop-not_take (suc i) w xs d m)),
    )

-- an ascending row with the number at a place removed is the row without that number
pub deleted_at : (xs : List ℕ) (w i : ℕ) → IsStrictlyIncreasing xs → i < length xs → get_or xs i 0 ≡ w → Deleted xs (remove xs i) w
deleted_at xs w i up l here = record {
  shorter = length-remove xs i l;
  kept = λ b.
      let once = only_here xs i l (Distinct-from_increasing xs up) in
      let whole : member b xs ≡ (member b (take i xs) || (eqb b w || member b (drop (suc i) xs))) =
      ap (member b) (sym (place-parts xs i l)) ∙ list_any-append (eqb b) (take i xs) (get_or xs i 0 ∷ drop (suc i) xs)
      ∙ ap (λ n. member b (take i xs) || (eqb b n || member b (drop (suc i) xs))) here in
      list_any-append (eqb b) (take i xs) (drop (suc i) xs)
      ∙ number-dropped (member b (take i xs)) (member b (drop (suc i) xs)) (eqb b w)
      (λ t.
      let e : b ≡ get_or xs i 0 = eqb-true b w t ∙ sym here in
      (ap (λ n. member n (take i xs)) e ∙ once.0, ap (λ n. member n (drop (suc i) xs)) e ∙ once.1))
      ∙ ap (λ t. t && not (eqb b w)) (sym whole);
  ascends = λ k lk.
      let n : length (remove xs i) + 1 ≡ length xs = length-remove xs i l in
      elim (cases_lt (k + 1) i) [
        | inl lt ↦ omega (arith, get_or-remove_below xs i 0 k (omega arith) l, get_or-remove_below xs i 0 (k + 1) lt l, up k (omega arith))
        | inr ge ↦ elim (cases_eq (k + 1) i) [
          | inl e ↦
              omega (
                arith,
                get_or-remove_below xs i 0 k (omega arith) l,
                get_or-remove_above xs i 0 (k + 1) (omega arith) l,
                up k (omega arith),
                up (k + 1) (omega arith),
              )
          | inr ne ↦ omega (arith, get_or-remove_above xs i 0 k (omega arith) l, get_or-remove_above xs i 0 (k + 1) (omega arith) l, up (k + 1) (omega arith))
        ]
      ];
}
