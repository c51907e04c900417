-- Looking for an id in the range that has it.
use Rattle.std.proofs.Common.{◌≡◌, ◌≤◌, ◌<◌, ◌+◌, ◌-◌, ◌*◌, ◌/◌, ℕ, true, List, [], ◌∷◌, ◌++◌, length, get_or, take, drop, nat_eq, refl, sym, ap}
use Rattle.std.proofs.Common.{subst, ◌∙◌, arith, inl, inr, length-take, length-drop}
use Rattle.std.specs.Prelude.{Result, Ok, Err, MatchResult}
use Rattle.std.specs.List.Sorted.{IsStrictlyIncreasing, IsBinarySearchResult, IsNonDecreasingBy}
use Rattle.std.specs.Ordering.{nat_cmp}
use Rattle.std.specs.Set.{is_member}
use Rattle.std.proofs.Math.Nat.{div-lt_iff_lt-mul, lt-div-mul-add, div-mul-le_self}
use Rattle.std.proofs.lemmas.Bool.{cases_lt, cases_eq}
use Rattle.std.proofs.lemmas.List.{get_or-take, get_or-drop, get_or_default, get_or_append_left, get_or_push}
use Rattle.std.proofs.lemmas.List.Sorted.{searched}
use Rattle.std.proofs.lemmas.List.Kept.{AllPairs-from_increasing}
use Rattle.kc_text.specs.Buckets.{AreBuckets, IsBegin, IsRangeOf}
use Rattle.kc_text.specs.Inputs.{place}
use Rattle.kc_text.proofs.Members.{Contains-from_member}
use Rattle.kc_text.proofs.Places.{place-found}
use Rattle.kc_lists.proofs.Shared.{never_falls}

-- an ascending list does not decrease, as a sort by the numbers themselves says it
pub is_non_decreasing : (xs : List ℕ) → IsStrictlyIncreasing xs → IsNonDecreasingBy (λ (x : ℕ). x) xs
is_non_decreasing xs up = λ i j d le l. elim (cases_eq i j) [
  | inl e ↦ omega (arith, ap (λ k. get_or xs k d) e)
  | inr ne ↦ omega (arith, AllPairs-from_increasing xs up i j d (omega arith) l)
]

-- where a member stands
member-stands : (ids : List ℕ) (id : ℕ) → is_member nat_eq ids id ≡ true → (i : ℕ) × (i < length ids) × (get_or ids i 0 ≡ id)
member-stands ids id h = let (k, l, e) = Contains-from_member ids id h in (k, l, get_or_default ids k 0 id l ∙ e)

-- the range of an id that is there is in the table, and the next one too
pub range-exists : (ids : List ℕ) (width : ℕ) (begins : List ℕ) (id : ℕ) → AreBuckets ids width begins → is_member nat_eq ids id ≡ true
    → id / width + 1 < length begins
range-exists ids width begins id h there =
    let (i, l, e) = member-stands ids id there in
    let reach : get_or ids i 0 < length ids * width = h.reach i 0 l in
    let k : id / width < length ids = (div-lt_iff_lt-mul {k = width} {x = id} {y = length ids} h.some).1 (omega arith) in
    omega (arith, h.whole)

-- a range begins no later than the next one
pub range-ordered : (ids : List ℕ) (width : ℕ) (begins : List ℕ) (k : ℕ) → AreBuckets ids width begins → k + 1 < length begins
    → get_or begins k 0 ≤ get_or begins (k + 1) 0
range-ordered ids width begins k h l = elim (cases_lt (get_or begins (k + 1) 0) (get_or begins k 0)) [
  | inl less ↦
      let i : ℕ = get_or begins (k + 1) 0 in
      let within : get_or begins k 0 ≤ length ids = (h.each k (omega arith)).within in
      let below : get_or ids i 0 < k * width = (h.each k (omega arith)).parted.0 i 0 (omega arith) less in
      let above : (k + 1) * width ≤ get_or ids i 0 = (h.each (k + 1) l).parted.1 i 0 (omega arith) (omega arith) in
      let next : (k + 1) * width ≡ k * width + width = grind arith in
      absurd (omega arith)
  | inr ok ↦ ok
]

-- an id stands between where its range begins and where the next one does
pub range-has : (ids : List ℕ) (width : ℕ) (begins : List ℕ) (id low high i : ℕ) → AreBuckets ids width begins → id / width + 1 < length begins
    → low ≡ get_or begins (id / width) 0 → high ≡ get_or begins (id / width + 1) 0 → i < length ids → get_or ids i 0 ≡ id → (low ≤ i) × (i < high)
range-has ids width begins id low high i h exists low-is high-is l e =
    let least : id / width * width ≤ id = div-mul-le_self id width in
    let most : id < id / width * width + width = lt-div-mul-add {a = id} {b = width} h.some in
    let next : (id / width + 1) * width ≡ id / width * width + width = grind arith in (
      elim (cases_lt i low) [
        | inl less ↦ absurd (let b = (h.each (id / width) (omega arith)).parted.0 i 0 (omega arith) (omega arith) in omega arith)
        | inr ok ↦ ok
      ],
      elim (cases_lt i high) [ inl ok ↦ ok | inr more ↦ absurd (let b = (h.each (id / width + 1) exists).parted.1 i 0 (omega arith) l in omega (arith, next)) ],
    )

-- an id of a range is the one that stands as far behind its begin among all ids
part-rises : (ids : List ℕ) (id before : ℕ) (range : List ℕ) → IsRangeOf ids id before range → (i : ℕ) → i < length range
    → get_or range i 0 ≡ get_or ids (before + i) 0
part-rises ids id before range h i l =
    ap (λ (t : List ℕ). get_or t i 0) h.part ∙ (get_or-take (length range) (drop before ids) i 0 l ∙ get_or-drop before ids i 0)

-- what a binary search of a range says: where the id stands, or which ids are less and which greater
searched_range : (ids : List ℕ) (id before : ℕ) (range : List ℕ) (r : Result ℕ ℕ) → IsRangeOf ids id before range → IsStrictlyIncreasing ids
    → IsBinarySearchResult (λ y. nat_cmp y id) range r
    → MatchResult r (λ i. (i < length range) × (get_or range i 0 ≡ id))
    (λ i. (i ≤ length range) × ((k : ℕ) → k < i → get_or range k 0 < id) × ((k : ℕ) → i ≤ k → k < length range → id < get_or range k 0))
searched_range ids id before range r h up s = searched range id r s (λ i j le l.
    let u = never_falls ids up (before + i) (before + j) (omega arith) (omega (arith, h.within)) in
    omega (arith, part-rises ids id before range h i (omega arith), part-rises ids id before range h j l))

-- an id that is found in its range has its place there, after those before the range
pub found_in_range : (ids : List ℕ) (id before : ℕ) (range : List ℕ) (i : ℕ) → IsRangeOf ids id before range → IsStrictlyIncreasing ids
    → IsBinarySearchResult (λ y. nat_cmp y id) range (Ok i) → before + i ≡ place ids id
found_in_range ids id before range i h up s =
    let (l, e) = searched_range ids id before range (Ok i) h up s in
    sym (place-found ids id (before + i) up (omega (arith, h.within)) (sym (part-rises ids id before range h i l) ∙ e))

-- an id that is there is found in its range
pub not_lost_in_range : (ids : List ℕ) (id before : ℕ) (range : List ℕ) (i : ℕ) → IsRangeOf ids id before range → IsStrictlyIncreasing ids
    → is_member nat_eq ids id ≡ true
    → IsBinarySearchResult (λ y. nat_cmp y id) range (Err i) → ⊥
not_lost_in_range ids id before range i h up there s =
    let (j, l, e) = member-stands ids id there in
    let (from, to) = h.all j l e in
    let (most, less, greater) = searched_range ids id before range (Err i) h up s in
    let in-place : before + (j - before) ≡ j = omega arith in
    let at : get_or range (j - before) 0 ≡ id = part-rises ids id before range h (j - before) (omega arith) ∙ (ap (λ t. get_or ids t 0) in-place ∙ e) in
    elim (cases_lt (j - before) i) [
      | inl b ↦ let x = less (j - before) b in absurd (omega arith)
      | inr a ↦ let x = greater (j - before) a (omega arith) in absurd (omega arith)
    ]

-- what the table says of the range k, if it is the one of the id
pub record Bounds (ids begins : List ℕ) (id k : ℕ) : Type 0 where
  pub exists : k + 1 < length begins
  pub ordered : get_or begins k 0 ≤ get_or begins (k + 1) 0
  pub within : get_or begins (k + 1) 0 ≤ length ids
  pub all : (i : ℕ) → i < length ids → get_or ids i 0 ≡ id → (get_or begins k 0 ≤ i) × (i < get_or begins (k + 1) 0)

-- the range of an id's number divided by the width is the one that has it
pub bounds_of : (ids : List ℕ) (width : ℕ) (begins table : List ℕ) (id value : ℕ) → AreBuckets ids width begins
    → is_member nat_eq ids id ≡ true → table ≡ begins → value ≡ id → Bounds ids table id (value / width)
bounds_of ids width begins table id value h there same read =
    let exists : id / width + 1 < length begins = range-exists ids width begins id h there in
    let b : Bounds ids begins id (id / width) = record {
      exists = exists;
      ordered = range-ordered ids width begins (id / width) h exists;
      within = (h.each (id / width + 1) exists).within;
      all = λ i l e. range-has ids width begins id _ _ i h exists refl refl l e;
    } in
    subst (λ (t : List ℕ). Bounds ids t id (value / width)) (sym same) (subst (λ (v : ℕ). Bounds ids begins id (v / width)) (sym read) b)

-- the part between two places
pub part_between : (ids rest range : List ℕ) (id low high : ℕ) → low ≤ high → high ≤ length ids → rest ≡ drop low ids → range ≡ take (high - low) rest
    → ((i : ℕ) → i < length ids → get_or ids i 0 ≡ id → (low ≤ i) × (i < high)) → IsRangeOf ids id low range
part_between ids rest range id low high l m from to all =
    let whole : range ≡ take (high - low) (drop low ids) = to ∙ ap (take (high - low)) from in
    let count : length range ≡ high - low = ap (length) whole ∙ omega (arith, length-take (high - low) (drop low ids), length-drop low ids) in
    record {
      part = whole ∙ ap (λ n. take n (drop low ids)) (sym count);
      within = omega arith;
      all = λ i li e. let a = all i li e in (a.0, omega arith);
    }

-- one range more
pub begins-push : (ids : List ℕ) (width : ℕ) (begins : List ℕ) (k begin : ℕ) → length begins ≡ k
    → ((j : ℕ) → j < k → IsBegin ids (j * width) (get_or begins j 0)) → IsBegin ids (k * width) begin
    → (j : ℕ) → j < k + 1 → IsBegin ids (j * width) (get_or (begins ++ begin ∷ []) j 0)
begins-push ids width begins k begin count each next j l = elim (cases_lt j k) [
  | inl before ↦ subst (IsBegin ids (j * width)) (sym (get_or_append_left begins (begin ∷ []) 0 j (omega arith))) (each j before)
  | inr last ↦
      let same : k ≡ j = omega arith in
      subst (IsBegin ids (j * width)) (sym (get_or_push begins begin 0 j (count ∙ same))) (subst (λ (t : ℕ). IsBegin ids (t * width) begin) same next)
]
