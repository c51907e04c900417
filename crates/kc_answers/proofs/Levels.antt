-- The numbers that come, in ascending order, and how often each comes.
use Rattle.std.proofs.Common.{◌≡◌, ◌≤◌, ◌<◌, ◌+◌, ℕ, zero, suc, Bool, true, false, cond, List, [], ◌∷◌, ◌++◌, refl, sym, ap, ◌∙◌, arith, append-nil}
use Rattle.std.proofs.Common.{eq-eqb, length, map, nat_eq, subst, max, inl, inr}
use Rattle.std.specs.Cmp.{both_ways}
use Rattle.std.specs.Prelude.{All, fold, slice_index}
use Rattle.std.specs.List.Sorted.{IsStrictlyIncreasing}
use Rattle.std.proofs.lemmas.Bool.{cases_eq, false≢true, ne_eqb}
use Rattle.std.proofs.lemmas.List.{map-append}
use Rattle.std.proofs.lemmas.List.Elements.{All-cons, All-nil, All-push, All-weaker}
use Rattle.kc_lists.specs.Lists.{member, times}
use Rattle.kc_lists.proofs.Counting.{Contains-from_member, member-push_cases, member_times, times_member}
use Rattle.kc_lists.proofs.Members.{member-append_left, member-append_right, member-head}
use Rattle.kc_graph.specs.Core.{greatest}
use Rattle.kc_text.proofs.Marks.{increasing-push}
use Rattle.kc_changes.proofs.Ascending.{ascending-is}
use Rattle.kc_answers.specs.Answers.{size_of, sizes_of}
use Rattle.kc_answers.specs.Counted.{counted, counted_below}
use Rattle.kc_reply.specs.declared.level_size.LevelSize.{LevelSize}

-- The greatest number. --------------------------------------------------------------------------------------

-- it is no less than what it began with
above-start : (a : ℕ) (xs : List ℕ) → a ≤ fold (λ n c. max n c) a xs
above-start a [] = omega arith
above-start a (x ∷ xs) = omega (arith, above-start (max a x) xs)

-- and no less than any of the numbers
above-each : (a : ℕ) (xs : List ℕ) → All (λ n. n ≤ fold (λ m c. max m c) a xs) xs
above-each a [] = All-nil (λ n. n ≤ a)
above-each a (x ∷ xs) =
    All-cons (λ n. n ≤ fold (λ m c. max m c) (max a x) xs) x xs (omega (arith, above-start (max a x) xs)) (above-each (max a x) xs)

-- each number is below the next one after the greatest
pub below-next : (xs : List ℕ) (levels : ℕ) → levels ≡ greatest xs + 1 → All (λ n. n < levels) xs
below-next xs levels is = λ k d l. omega (arith, above-each 0 xs k d l, is)

-- The numbers that come. ------------------------------------------------------------------------------------

-- those below a bound, ascending
abbrev levels_below : List ℕ → ℕ → List ℕ
levels_below core zero = []
levels_below core (suc n) = cond (nat_eq (times n core) 0) (levels_below core n) (levels_below core n ++ n ∷ [])

-- they are counted one after another, where it is counted how often each number comes
counted-are : (core counts : List ℕ) (n : ℕ) → ((k : ℕ) → k < n → slice_index counts k ≡ times k core)
    → map (size_of core) (levels_below core n) ≡ counted_below counts n
counted-are core counts zero each = refl
counted-are core counts (suc n) each =
    let before : map (size_of core) (levels_below core n) ≡ counted_below counts n = counted-are core counts n (λ k l. each k (omega (arith, l))) in
    elim (nat_eq (times n core) 0) as (λ b. map (size_of core) (cond b (levels_below core n) (levels_below core n ++ n ∷ []))
    ≡ counted_below counts n ++ cond b [] (size_of core n ∷ [])) [
      | true ↦ before ∙ sym (append-nil (counted_below counts n))
      | false ↦ map-append (size_of core) (levels_below core n) (n ∷ []) ∙ ap (λ (l : List LevelSize). l ++ size_of core n ∷ []) before
    ]
    ∙ ap (λ (t : ℕ). counted_below counts n ++ counted n t) (sym (each n (omega arith)))

-- each of them is below the bound
levels-low : (core : List ℕ) (n : ℕ) → All (λ y. y < n) (levels_below core n)
levels-low core zero = All-nil (λ y. y < 0)
levels-low core (suc n) =
    let low : All (λ y. y < suc n) (levels_below core n) = All-weaker (λ y. y < n) (λ y. y < suc n) (λ y l. omega (arith, l))
    (levels_below core n) (levels-low core n) in
    elim (nat_eq (times n core) 0) as (λ b. All (λ y. y < suc n) (cond b (levels_below core n) (levels_below core n ++ n ∷ []))) [
      | true ↦ low
      | false ↦ All-push (λ y. y < suc n) (levels_below core n) n low (omega arith)
    ]

-- they ascend
levels-ascend : (core : List ℕ) (n : ℕ) → IsStrictlyIncreasing (levels_below core n)
levels-ascend core zero = λ k l. absurd (omega arith)
levels-ascend core (suc n) =
    elim (nat_eq (times n core) 0) as (λ b. IsStrictlyIncreasing (cond b (levels_below core n) (levels_below core n ++ n ∷ []))) [
      | true ↦ levels-ascend core n
      | false ↦ increasing-push (levels_below core n) n (levels-ascend core n) (levels-low core n)
    ]

-- each of them comes
levels-come : (core : List ℕ) (n q : ℕ) → member q (levels_below core n) ≡ true → member q core ≡ true
levels-come core zero q m = absurd (false≢true m)
levels-come core (suc n) q m =
    elim (nat_eq (times n core) 0) as (λ b. nat_eq (times n core) 0 ≡ b
    → member q (cond b (levels_below core n) (levels_below core n ++ n ∷ [])) ≡ true → member q core ≡ true) [
      | true ↦ λ _ h. levels-come core n q h
      | false ↦ λ some h. elim (member-push_cases q n (levels_below core n) h) [
        | inl before ↦ levels-come core n q before
        | inr here ↦ subst (λ (x : ℕ). member x core ≡ true) (sym here) (member_times n core (positive (times n core) some))
      ]
    ] refl m
  where
    positive : (t : ℕ) → nat_eq t 0 ≡ false → 0 < t
    positive t other = elim (cases_eq t 0) [
      | inl e ↦ absurd (false≢true (sym other ∙ eq-eqb t 0 e))
      | inr ne ↦ omega (arith, ne)
    ]

-- and whichever comes below the bound is there
levels-all : (core : List ℕ) (n q : ℕ) → q < n → member q core ≡ true → member q (levels_below core n) ≡ true
levels-all core zero q l m = absurd (omega arith)
levels-all core (suc n) q l m = elim (cases_eq q n) [
  | inl e ↦
      let some : nat_eq (times n core) 0 ≡ false = counted (times n core) (times_member n core (subst (λ (x : ℕ). member x core ≡ true) e m)) in
      subst (λ (b : Bool). member q (cond b (levels_below core n) (levels_below core n ++ n ∷ [])) ≡ true) (sym some)
      (subst (λ (x : ℕ). member x (levels_below core n ++ n ∷ []) ≡ true) (sym e) (member-append_right n (levels_below core n) (n ∷ []) (member-head n [])))
  | inr ne ↦
      let before : member q (levels_below core n) ≡ true = levels-all core n q (omega (arith, l, ne)) m in
      elim (nat_eq (times n core) 0) as (λ b. member q (cond b (levels_below core n) (levels_below core n ++ n ∷ [])) ≡ true) [
        | true ↦ before
        | false ↦ member-append_left q (levels_below core n) (n ∷ []) before
      ]
]
  where
    counted : (t : ℕ) → 0 < t → nat_eq t 0 ≡ false
    counted t some = ne_eqb t 0 (λ e. omega (arith, some, e))

-- All numbers that come, in ascending order, are those below the next one after the greatest.
pub counted-of_all : (core counts : List ℕ) → length counts ≡ greatest core + 1 → ((k : ℕ) → k < length counts → slice_index counts k ≡ times k core)
    → sizes_of core ≡ counted_below counts (length counts)
counted-of_all core counts is each =
    let n : ℕ = length counts in
    ap (map (size_of core)) (ascending-is (levels_below core n) core (levels-ascend core n) (λ q.
    both_ways (member q (levels_below core n)) (member q core) (levels-come core n q) (λ m.
    let (k, low, at) = Contains-from_member core q m in
    levels-all core n q (subst (λ (x : ℕ). x < n) at (below-next core n is k q low)) m)))
    ∙ counted-are core counts n each

-- those with one number more
pub counted-more : (counts : List ℕ) (n : ℕ) → counted_below counts (n + 1) ≡ counted_below counts n ++ counted n (slice_index counts n)
counted-more counts n = ap (counted_below counts) (one-more n)
  where
    one-more : (m : ℕ) → m + 1 ≡ suc m
    one-more m = omega arith
