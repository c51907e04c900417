-- A number goes into an ascending row.
use Rattle.std.proofs.Common.{◌≡◌, ◌≤◌, ◌<◌, ◌+◌, ◌-◌, ℕ, false, ◌||◌, List, [], ◌∷◌, length, get_or, take, drop, eqb, sym, ◌∙◌, ap, subst, inl, inr}
use Rattle.std.proofs.Common.{arith, true≢false, take-append-drop, Result, Ok, Err}
use Rattle.std.specs.List.{insert}
use Rattle.std.specs.Result.{OnErr, IsOk, is_ok}
use Rattle.std.specs.List.Sorted.{IsStrictlyIncreasing}
use Rattle.std.proofs.lemmas.Bool.{cases_eq, cases_lt, false≢true}
use Rattle.std.proofs.lemmas.List.Edits.{length-insert, get_or-insert_below, get_or-insert_at, get_or-insert_above}
use Rattle.std.proofs.lemmas.List.Folds.{list_any-append}
use Rattle.kc_lists.specs.Lists.{member}
use Rattle.kc_graph.specs.Rows.{Inserted, IsPlace}
use Rattle.kc_graph.proofs.RowsLemmas.{place-found}
use Rattle.kc_lists.proofs.Shared.{or-swap}

-- a number put between the lesser and the greater ones of an ascending row goes into its place
inserted_at : (xs : List ℕ) (w i : ℕ) → IsStrictlyIncreasing xs → i ≤ length xs → ((k : ℕ) → k < i → get_or xs k 0 < w)
    → ((k : ℕ) → i ≤ k → k < length xs → w < get_or xs k 0) → Inserted xs (insert xs i w) w
inserted_at xs w i up le low high = record {
  longer = length-insert xs i w le;
  gained = λ b.
      list_any-append (eqb b) (take i xs) (w ∷ drop i xs) ∙ or-swap (member b (take i xs)) (eqb b w) (member b (drop i xs))
      ∙ ap (λ t. t || eqb b w) (sym (list_any-append (eqb b) (take i xs) (drop i xs)) ∙ ap (member b) (take-append-drop i xs));
  ascends = λ k l.
      let n : length (insert xs i w) ≡ length xs + 1 = length-insert xs i w le in
      elim (cases_lt (k + 1) i) [
        | inl lt ↦ omega (arith, get_or-insert_below xs i w 0 k (omega arith) le, get_or-insert_below xs i w 0 (k + 1) lt le, up k (omega arith))
        | inr ge ↦ elim (cases_eq (k + 1) i) [
          | inl e ↦
              omega (
                arith,
                get_or-insert_below xs i w 0 k (omega arith) le,
                ap (λ j. get_or (insert xs i w) j 0) e,
                get_or-insert_at xs i w 0 le,
                low k (omega arith),
              )
          | inr ne ↦ elim (cases_eq k i) [
            | inl e ↦
                omega (
                  arith,
                  ap (λ j. get_or (insert xs i w) j 0) e,
                  get_or-insert_at xs i w 0 le,
                  get_or-insert_above xs i w 0 k (omega arith) le,
                  high k (omega arith) (omega arith),
                )
            | inr ne' ↦
                let j : ℕ = k - 1 in
                let k-is : k ≡ j + 1 = omega arith in
                omega (
                  arith,
                  ap (λ m. get_or (insert xs i w) m 0) k-is,
                  get_or-insert_above xs i w 0 j (omega arith) le,
                  get_or-insert_above xs i w 0 k (omega arith) le,
                  ap (λ m. get_or xs m 0) k-is,
                  up j (omega arith),
                )
          ]
        ]
      ];
}

-- a number goes into its place where the search says that it has to go
pub inserted_found : (xs : List ℕ) (w i : ℕ) (r : Result ℕ ℕ) → r ≡ Err i → IsStrictlyIncreasing xs → IsPlace xs w r → Inserted xs (insert xs i w) w
inserted_found xs w i r e up h = let m = subst (IsPlace xs w) e h in inserted_at xs w i up m.0 m.1 m.2

-- a number that a row lacks is never found there
pub never_found : (xs : List ℕ) (w i : ℕ) (r : Result ℕ ℕ) → r ≡ Ok i → member w xs ≡ false → IsPlace xs w r → ⊥
never_found xs w i r e lacks h = true≢false (ap is_ok (sym e) ∙ place-found xs w r h ∙ lacks)

-- what follows from what holds of an error holds of it too
pub on_err_weaker : {T E P Q : Type 0} (r : Result T E) → (P → Q) → OnErr r P → OnErr r Q
on_err_weaker (Ok x) f h = h
on_err_weaker (Err e) f h = f h

-- where there is no error, anything holds of it
pub no_err : {T E : Type 0} (P : Type 0) (r : Result T E) → IsOk r → OnErr r P
no_err P (Ok x) h = tt
no_err P (Err e) h = absurd (false≢true h)

-- one of the elements, as a default
pub some_element : {X : Type 0} → (xs : List X) → 0 < length xs → X
some_element [] l = absurd (omega arith)
some_element (x ∷ xs) l = x
