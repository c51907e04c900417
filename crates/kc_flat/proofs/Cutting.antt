-- Parts of a block that lie one after the other.
use Rattle.std.proofs.Common.{◌≡◌, ◌≤◌, ◌<◌, ◌+◌, ◌-◌, ℕ, suc, zero, List, [], ◌∷◌, length, get_or, take, drop, refl, sym, ◌∙◌, ap, arith}
use Rattle.std.specs.List.{between, sum_by}
use Rattle.std.proofs.lemmas.List.{take-take}
use Rattle.std.proofs.lemmas.List.Edits.{length-between}
use Rattle.std.proofs.lemmas.List.Sums.{sum_by-cons}
use Rattle.std.proofs.lemmas.Slice.{between_is}
use Rattle.kc_graph.specs.Blocks.{first_of}
use Rattle.kc_graph.specs.Rows.{row}
use Rattle.kc_graph.proofs.Lying.{drop-later}
use Rattle.kc_flat.specs.Parts.{part, parts_from, Fills}

-- a part of no length has no number
pub between-none : (a : ℕ) (xs : List ℕ) → between a a xs ≡ []
between-none a xs = let none : a - a ≡ 0 = omega arith in ap (λ (k : ℕ). take k (drop a xs)) none

-- a part of the front of a list is one of the list
pub between-take : (a b n : ℕ) (xs : List ℕ) → b ≤ n → between a b (take n xs) ≡ between a b xs
between-take a b n xs l =
    let least : take b (take n xs) ≡ take b xs = take-take b n xs l in
    between_is (take n xs) a b ∙ ap (drop a) least ∙ sym (between_is xs a b)

-- lists with the same front have the same parts there
pub between-front : (a b n : ℕ) (xs ys : List ℕ) → b ≤ n → take n xs ≡ take n ys → between a b xs ≡ between a b ys
between-front a b n xs ys l e = sym (between-take a b n xs l) ∙ ap (between a b) e ∙ between-take a b n ys l

-- lists with the same back have the same parts there
pub between-back : (a b n : ℕ) (xs ys : List ℕ) → n ≤ a → drop n xs ≡ drop n ys → between a b xs ≡ between a b ys
between-back a b n xs ys l e = ap (take (b - a)) (drop-later xs ys n a l e)

module _ (ends block : List ℕ) (h : Fills ends block) where
  -- a part begins no later than the later ones
  first-rises : (v k : ℕ) → v + k ≤ length ends → first_of ends v ≤ first_of ends (v + k)
  first-rises v zero l = let same : v ≡ v + 0 = omega arith in omega (arith, ap (first_of ends) same)
  first-rises v (suc k) l =
      let next : suc (v + k) ≡ v + suc k = omega arith in
      omega (arith, ap (first_of ends) next, h.ordered (v + k) (omega arith), first-rises v k (omega arith))

  -- each part ends within the block
  pub ends-within : (v : ℕ) → v < length ends → get_or ends v 0 ≤ length block
  ends-within v l =
      let last : suc v + (length ends - suc v) ≡ length ends = omega arith in
      omega (arith, ap (first_of ends) last, first-rises (suc v) (length ends - suc v) (omega arith), h.whole)

  -- a part ends no later than a later one begins
  pub ends-before : (u v : ℕ) → u < v → v < length ends → get_or ends u 0 ≤ first_of ends v
  ends-before u v lt l =
      let later : suc u + (v - suc u) ≡ v = omega arith in
      omega (arith, ap (first_of ends) later, first-rises (suc u) (v - suc u) (omega arith))

  -- a block of the same length is cut into parts alike
  pub fills-resized : (block' : List ℕ) → length block' ≡ length block → Fills ends block'
  fills-resized block' size = record { ordered = h.ordered; whole = h.whole ∙ sym size }

  -- how long a part is
  pub length-part : (v : ℕ) → v < length ends → length (part ends block v) ≡ get_or ends v 0 - first_of ends v
  length-part v l = length-between block (first_of ends v) (get_or ends v 0) (ends-within v l)

-- The parts as rows. -------------------------------------------------------------------------------

-- where a part begins, when the first one begins at the place `from`
first_from : ℕ → List ℕ → ℕ → ℕ
first_from from ends zero = from
first_from from ends (suc v) = get_or ends v 0

-- each part begins where the one before it ends
first-cons : (from end : ℕ) (ends : List ℕ) (v : ℕ) → first_from from (end ∷ ends) (suc v) ≡ first_from end ends v
unfolding first_from
first-cons from end ends zero = refl
first-cons from end ends (suc v) = refl

-- the row of a part is the part
row-from : (from : ℕ) (ends block : List ℕ) (v : ℕ) → v < length ends
    → row (parts_from from ends block) v ≡ between (first_from from ends v) (get_or ends v 0) block
unfolding first_from
row-from from [] block v l = absurd (omega arith)
row-from from (end ∷ ends) block zero l = refl
row-from from (end ∷ ends) block (suc v) l =
    row-from end ends block v (omega arith) ∙ ap (λ (k : ℕ). between k (get_or ends v 0) block) (sym (first-cons from end ends v))

-- it is so where the first part begins at the front
pub row-part : (ends block : List ℕ) (v : ℕ) → v < length ends → row (parts_from 0 ends block) v ≡ part ends block v
unfolding first_from
row-part ends block zero l = row-from 0 ends block zero l
row-part ends block (suc v) l = row-from 0 ends block (suc v) l

-- there is a row for each part
pub length-parts : (from : ℕ) (ends block : List ℕ) → length (parts_from from ends block) ≡ length ends
length-parts from [] block = refl
length-parts from (end ∷ ends) block = ap suc (length-parts end ends block)

-- parts that lie one after the other have as many numbers as there are places from the first of them to the last
sum-from : (from : ℕ) (ends block : List ℕ) → ((v : ℕ) → v < length ends → first_from from ends v ≤ get_or ends v 0)
    → ((v : ℕ) → v < length ends → get_or ends v 0 ≤ length block) → sum_by length (parts_from from ends block) + from ≡ first_from from ends (length ends)
unfolding first_from
sum-from from [] block ordered within = omega arith
sum-from from (end ∷ ends) block ordered within =
    omega (
      arith,
      sum_by-cons length (between from end block) (parts_from end ends block),
      length-between block from end (within 0 (omega arith)),
      ordered 0 (omega arith),
      sum-from end ends block (λ v l. omega (arith, first-cons from end ends v, ordered (suc v) (omega arith))) (λ v l. within (suc v) (omega arith)),
      first-cons from end ends (length ends),
    )

-- the parts of a block have all its numbers
pub sum-parts : (ends block : List ℕ) → Fills ends block → sum_by length (parts_from 0 ends block) ≡ length block
unfolding first_from
sum-parts ends block h =
    omega (arith, sum-from 0 ends block ordered (ends-within ends block h), first (length ends), h.whole)
  where
    first : (v : ℕ) → first_from 0 ends v ≡ first_of ends v
    first zero = refl
    first (suc v) = refl

    ordered : (v : ℕ) → v < length ends → first_from 0 ends v ≤ get_or ends v 0
    ordered v l = omega (arith, first v, h.ordered v l)
