-- The h-index of a list, and what a round makes of a vertex.
use Rattle.std.proofs.Common.{◌≡◌, ◌≤◌, ◌<◌, ◌+◌, ℕ, suc, zero, Bool, true, false, cond, List, [], ◌∷◌, length, map, leb, refl, sym, ◌∙◌, ap, subst}
use Rattle.std.proofs.Common.{◌⊎◌, inl, inr, arith, true≢false, le_trans, leb-true, le-leb}
use Rattle.std.specs.Prelude.{count_by}
use Rattle.std.proofs.lemmas.Bool.{cases_Bool, cases_eq}
use Rattle.kc_lists.specs.Lists.{member}
use Rattle.kc_lists.proofs.Counting.{count-cons, count-mono, count-le-length}
use Rattle.kc_shard.specs.HIndex.{how_many_reach, h_index_up_to, h_index, IsHIndex}

-- as many numbers as the h-index up to a limit reach it
pub up_to-reached : (xs : List ℕ) (n : ℕ) → h_index_up_to xs n ≤ how_many_reach (h_index_up_to xs n) xs
up_to-reached xs zero = omega arith
up_to-reached xs (suc n) =
    elim (leb (suc n) (how_many_reach (suc n) xs)) as (λ b. leb (suc n) (how_many_reach (suc n) xs) ≡ b
    → cond b (suc n) (h_index_up_to xs n) ≤ how_many_reach (cond b (suc n) (h_index_up_to xs n)) xs) [
      | true ↦ λ e. leb-true _ _ e
      | false ↦ λ _. up_to-reached xs n
    ] refl

-- a number is no greater than another, or it is greater
numbers-ordered : (k h : ℕ) → (k ≤ h) ⊎ (h < k)
numbers-ordered zero h = inl (omega arith)
numbers-ordered (suc k) h = elim (numbers-ordered k h) [
  | inl l ↦ elim (cases_eq k h) [ inl e ↦ inr (omega arith) | inr ne ↦ inl (omega arith) ]
  | inr l ↦ inr (omega arith)
]

-- what is not the limit plus one is within the limit
limit-not_above : (k n : ℕ) → k ≤ suc n → (k ≡ suc n → ⊥) → k ≤ n
limit-not_above k n l ne = elim (cases_eq k (suc n)) [ inl e ↦ absurd (ne e) | inr other ↦ omega arith ]

-- a test of two numbers that fails tells which one is greater
pub not_leb : (k h : ℕ) → leb k h ≡ false → h < k
not_leb k h f = elim (numbers-ordered k h) [ inl l ↦ absurd (true≢false (sym (le-leb k h l) ∙ f)) | inr l ↦ l ]

-- a number up to the limit that as many numbers reach is no greater than the h-index up to it
pub up_to-greatest : (xs : List ℕ) (n k : ℕ) → k ≤ n → k ≤ how_many_reach k xs → k ≤ h_index_up_to xs n
up_to-greatest xs zero k l h = l
up_to-greatest xs (suc n) k l h =
    elim (leb (suc n) (how_many_reach (suc n) xs)) as (λ b. leb (suc n) (how_many_reach (suc n) xs) ≡ b → k ≤ cond b (suc n) (h_index_up_to xs n)) [
      | true ↦ λ _. l
      | false ↦ λ e.
          let ne : k ≡ suc n → ⊥ =
          λ k-n. true≢false (sym (le-leb (suc n) (how_many_reach (suc n) xs) (subst (λ (m : ℕ). m ≤ how_many_reach m xs) k-n h)) ∙ e) in
          up_to-greatest xs n k (limit-not_above k n l ne) h
    ] refl

-- as many numbers as the h-index reach it
pub h_index-reached : (xs : List ℕ) → h_index xs ≤ how_many_reach (h_index xs) xs
h_index-reached xs = up_to-reached xs (length xs)

-- a number that as many numbers reach is no greater than the h-index
pub h_index-greatest : (xs : List ℕ) (k : ℕ) → k ≤ how_many_reach k xs → k ≤ h_index xs
h_index-greatest xs k h = up_to-greatest xs (length xs) k (le_trans h (count-le-length (leb k) xs)) h

-- the h-index of a list is what it is to be
pub h_index-is : (xs : List ℕ) → IsHIndex xs (h_index xs)
h_index-is xs = record { reached = h_index-reached xs; greatest = h_index-greatest xs }

-- a list has one h-index
pub h_index-only : (xs : List ℕ) (h : ℕ) → IsHIndex xs h → h ≡ h_index xs
h_index-only xs h i =
    let one : h ≤ h_index xs = h_index-greatest xs h i.reached in
    let other : h_index xs ≤ h = i.greatest (h_index xs) (h_index-reached xs) in
    omega arith

-- how many images of a list pass a test, counted by the list
pub count-map : (p : ℕ → Bool) (c : ℕ → ℕ) (ws : List ℕ) → count_by p (map c ws) ≡ count_by (λ w. p (c w)) ws
count-map p c [] = refl
count-map p c (w ∷ ws) = count-cons p (c w) (map c ws) ∙ (ap (λ n. cond (p (c w)) 1 0 + n) (count-map p c ws) ∙ sym (count-cons (λ w. p (c w)) w ws))

-- a list has as many images as elements
pub length-map : (c : ℕ → ℕ) (ws : List ℕ) → length (map c ws) ≡ length ws
length-map c [] = refl
length-map c (w ∷ ws) = ap suc (length-map c ws)

-- the h-index is no greater than the length of the list
pub h_index-length : (xs : List ℕ) → h_index xs ≤ length xs
h_index-length xs = le_trans (h_index-reached xs) (count-le-length (leb (h_index xs)) xs)

-- lesser numbers have no greater h-index
pub h_index-mono : (c d : ℕ → ℕ) (ws : List ℕ) → ((w : ℕ) → member w ws ≡ true → c w ≤ d w) → h_index (map c ws) ≤ h_index (map d ws)
h_index-mono c d ws h =
    let k : ℕ = h_index (map c ws) in
    let some : k ≤ count_by (leb k) (map c ws) = h_index-reached (map c ws) in
    let more : count_by (λ w. leb k (c w)) ws ≤ count_by (λ w. leb k (d w)) ws =
    count-mono (λ w. leb k (c w)) (λ w. leb k (d w)) ws (λ w m t. le-leb k (d w) (le_trans (leb-true k (c w) t) (h w m))) in
    let enough : k ≤ count_by (leb k) (map d ws) = omega (arith, some, more, count-map (leb k) c ws, count-map (leb k) d ws) in
    h_index-greatest (map d ws) k enough

-- a number that as many neighbours' numbers reach is no greater than the h-index
pub in_reach : (c : ℕ → ℕ) (ws : List ℕ) (k : ℕ) → k ≤ count_by (λ w. leb k (c w)) ws → k ≤ h_index (map c ws)
in_reach c ws k h = h_index-greatest (map c ws) k (omega (arith, h, count-map (leb k) c ws))

-- a number that fewer neighbours' numbers reach is greater than the h-index
pub out_of_reach : (c : ℕ → ℕ) (ws : List ℕ) (k : ℕ) → count_by (λ w. leb k (c w)) ws < k → h_index (map c ws) < k
out_of_reach c ws k less =
    let h : ℕ = h_index (map c ws) in
    elim (cases_Bool (leb k h)) [
      | inl t ↦
          let l : k ≤ h = leb-true k h t in
          let some : h ≤ count_by (leb h) (map c ws) = h_index-reached (map c ws) in
          let more : count_by (λ w. leb h (c w)) ws ≤ count_by (λ w. leb k (c w)) ws =
          count-mono (λ w. leb h (c w)) (λ w. leb k (c w)) ws (λ w _ t. le-leb k (c w) (le_trans l (leb-true h (c w) t))) in
          absurd (omega (arith, less, l, some, more, count-map (leb h) c ws))
      | inr f ↦ not_leb k h f
    ]
