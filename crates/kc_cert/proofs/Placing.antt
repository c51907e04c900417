-- Orders by ranks, and what a shift makes of them.
use Rattle.std.proofs.Common.{◌≡◌, ◌≢◌, ◌<◌, ◌+◌, ℕ, suc, Bool, true, false, cond, ◌&&◌, ◌||◌, List, [], ◌∷◌, ◌++◌, drop, eqb, refl, sym, ◌∙◌, ap}
use Rattle.std.proofs.Common.{inl, inr, arith, true≢false, eqb-true, eq-eqb, ne_eqb}
use Rattle.std.specs.Prelude.{count_by}
use Rattle.std.specs.List.{filter}
use Rattle.std.proofs.lemmas.Bool.{cases_Bool, cases_eq, eqb-false, false≢true, or_cases, or_right, or_parts, false_from_ne_true}
use Rattle.std.proofs.lemmas.List.Folds.{list_any-append}
use Rattle.kc_lists.specs.Lists.{member, Distinct, without, right_after, place_of}
use Rattle.kc_lists.proofs.Members.{member-head, member-tail, member-cases, member-without, without-member, not_member-without}
use Rattle.kc_lists.proofs.Counting.{member-other, member-filter, count-no, count-agree}
use Rattle.kc_graph.specs.Plans.{shifted}
use Rattle.kc_cert.specs.Local.{firsts, seconds, AreInTurn}
use Rattle.kc_cert.specs.Ranks.{AscendsBy, moved, place_after, Orders}
use Rattle.kc_lists.proofs.Shared.{or-swap, and-fails}
use Rattle.std.proofs.Math.Bool.{or_assoc, or-false}

-- the new rank of what was shifted is right behind that of the one before it
pub moved-itself : (place : ℕ → ℕ) (x last y : ℕ) → y ≡ x → moved place x last y ≡ place last + place last + 1
moved-itself place x last y e = ap (λ b. cond b (place last + place last + 1) (place y + place y)) (eq-eqb y x e)

-- the new rank of another one is its rank doubled
pub moved-other : (place : ℕ → ℕ) (x last y : ℕ) → y ≢ x → moved place x last y ≡ place y + place y
moved-other place x last y ne = ap (λ b. cond b (place last + place last + 1) (place y + place y)) (ne_eqb y x ne)

-- a second condition that holds changes nothing
and-yes : (a b : Bool) → b ≡ true → a ≡ (a && b)
and-yes a b h = grind arith

-- what is left of an ascending order ascends
pub Ascends-filter : (r : ℕ → ℕ) (p : ℕ → Bool) (xs : List ℕ) → AscendsBy r xs → AscendsBy r (filter p xs)
Ascends-filter r p [] a = tt
Ascends-filter r p (x ∷ xs) a =
    elim (p x) as (λ b. AscendsBy r (cond b (x ∷ filter p xs) (filter p xs))) [
      | true ↦ (λ y m. a.0 y (member-filter p y xs m).0, Ascends-filter r p xs a.1)
      | false ↦ Ascends-filter r p xs a.1
    ]

-- an ascending order without one vertex ascends
Ascends-without : (r : ℕ → ℕ) (x : ℕ) (xs : List ℕ) → AscendsBy r xs → AscendsBy r (without x xs)
Ascends-without r x [] a = tt
Ascends-without r x (y ∷ ys) a =
    elim (eqb x y) as (λ b. AscendsBy r (cond b (without x ys) (y ∷ without x ys))) [
      | true ↦ Ascends-without r x ys a.1
      | false ↦ (λ z m. a.0 z (member-without z x ys m).0, Ascends-without r x ys a.1)
    ]

-- what stands in a list once a number is put right after another
pub placed_has : (x w : ℕ) (ys : List ℕ) → member w ys ≡ true → (z : ℕ) → member z (right_after x w ys) ≡ (member z ys || eqb z x)
placed_has x w [] m z = absurd (false≢true m)
placed_has x w (y ∷ ys) m z =
    elim (eqb w y) as (λ b. eqb w y ≡ b → member z (cond b (y ∷ x ∷ ys) (y ∷ right_after x w ys)) ≡ (eqb z y || member z ys || eqb z x)) [
      | true ↦ λ _. or-swap (eqb z y) (eqb z x) (member z ys)
      | false ↦ λ e. ap (λ b. eqb z y || b) (placed_has x w ys (member-other w y ys (λ k. eqb-false w y e k) m) z)
          ∙ sym (or_assoc (eqb z y) (member z ys) (eqb z x))
    ] refl

-- an order without the shifted vertex ascends by the new ranks too
Ascends-moved : (r : ℕ → ℕ) (x w : ℕ) (ys : List ℕ) → AscendsBy r ys → member x ys ≡ false → AscendsBy (moved r x w) ys
Ascends-moved r x w [] a m = tt
Ascends-moved r x w (y ∷ ys) a m =
    let k = or_parts (eqb x y) (member x ys) m in
    let ny : y ≢ x = λ e. eqb-false x y k.0 (sym e) in (
      λ z in'.
          let nz : z ≢ x = λ e. true≢false (sym in' ∙ (ap (λ n. member n ys) e ∙ k.1)) in
          let lt : r y < r z = a.0 z in' in
          omega (arith, lt, moved-other r x w y ny, moved-other r x w z nz),
      Ascends-moved r x w ys a.1 k.1,
    )

-- with it put right after the other, the order ascends by the new ranks
Ascends-placed : (r : ℕ → ℕ) (x w : ℕ) (ys : List ℕ) → AscendsBy r ys → member x ys ≡ false → member w ys ≡ true → AscendsBy (moved r x w) (right_after x w ys)
Ascends-placed r x w [] a m mw = absurd (false≢true mw)
Ascends-placed r x w (y ∷ ys) a m mw =
    let k = or_parts (eqb x y) (member x ys) m in
    let ny : y ≢ x = λ e. eqb-false x y k.0 (sym e) in
    let here : moved r x w y ≡ r y + r y = moved-other r x w y ny in
    let there : moved r x w x ≡ r w + r w + 1 = moved-itself r x w x refl in
    let others : (z : ℕ) → member z ys ≡ true → (r y < r z) × (moved r x w z ≡ r z + r z) = λ z in'.
    let nz : z ≢ x = λ e. true≢false (sym in' ∙ (ap (λ n. member n ys) e ∙ k.1)) in
    (a.0 z in', moved-other r x w z nz) in
    elim (eqb w y) as (λ b. eqb w y ≡ b → AscendsBy (moved r x w) (cond b (y ∷ x ∷ ys) (y ∷ right_after x w ys))) [
      | true ↦ λ e.
          let same : r y ≡ r w = ap r (sym (eqb-true w y e)) in (
            λ z in'. elim (member-cases z x ys in') [
              | inl z-x ↦ let eq : moved r x w z ≡ moved r x w x = ap (moved r x w) z-x in omega (arith, eq, here, there, same)
              | inr m' ↦ let o = others z m' in omega (arith, o.0, o.1, here)
            ],
            (λ z in'. let o = others z in' in omega (arith, o.0, o.1, there, same), Ascends-moved r x w ys a.1 k.1),
          )
      | false ↦ λ e.
          let mw' : member w ys ≡ true = member-other w y ys (λ q. eqb-false w y e q) mw in (
            λ z in'. elim (or_cases (member z ys) (eqb z x) (sym (placed_has x w ys mw' z) ∙ in')) [
              | inl m' ↦ let o = others z m' in omega (arith, o.0, o.1, here)
              | inr z-x ↦
                  let eq : moved r x w z ≡ moved r x w x = ap (moved r x w) (eqb-true z x z-x) in
                  let o = others w mw' in
                  omega (arith, eq, here, there, o.0)
            ],
            Ascends-placed r x w ys a.1 k.1 mw',
          )
    ] refl

-- the others stay in a list without one vertex
others-left : (x z : ℕ) (xs : List ℕ) → z ≢ x → member z (without x xs) ≡ member z xs
others-left x z xs ne = elim (cases_Bool (member z xs)) [
  | inl m ↦ without-member z x xs m ne ∙ sym m
  | inr n ↦ false_from_ne_true _ (λ m. true≢false (sym (member-without z x xs m).0 ∙ n)) ∙ sym n
]

-- after one shift an order has the same vertices
pub put_after-has : (x w : ℕ) (order : List ℕ) → member x order ≡ true → member w order ≡ true → w ≢ x → (z : ℕ)
    → member z (right_after x w (without x order)) ≡ member z order
put_after-has x w order mx mw ne z =
    placed_has x w (without x order) (others-left x w order ne ∙ mw) z
    ∙ elim (cases_eq z x) [
      | inl e ↦ or_right _ (eqb z x) (eq-eqb z x e) ∙ (sym mx ∙ ap (λ n. member n order) (sym e))
      | inr nz ↦ ap (λ b. b || eqb z x) (others-left x z order nz) ∙ (ap (λ b. member z order || b) (ne_eqb z x nz) ∙ or-false (member z order))
    ]

-- after one shift an order ascends by the ranks after it
pub put_after-ascends : (r : ℕ → ℕ) (x w : ℕ) (order : List ℕ) → AscendsBy r order → member w order ≡ true → w ≢ x
    → AscendsBy (moved r x w) (right_after x w (without x order))
put_after-ascends r x w order a mw ne =
    Ascends-placed r x w (without x order) (Ascends-without r x order a) (not_member-without x order) (others-left x w order ne ∙ mw)

-- what is not in a list is not its first
not_itself : (w x : ℕ) (xs : List ℕ) → member w (x ∷ xs) ≡ false → w ≢ x
not_itself w x xs n e = true≢false (sym (ap (λ k. member k (x ∷ xs)) e ∙ member-head x xs) ∙ n)

-- after all shifts an order has the same vertices
pub shifted-has : (shifts : List (ℕ × ℕ)) (order : List ℕ) → AreInTurn shifts
    → ((x : ℕ) → member x (firsts shifts) ≡ true → member x order ≡ true)
    → ((x : ℕ) → member x (seconds shifts) ≡ true → member x order ≡ true)
    → (z : ℕ) → member z (shifted shifts order) ≡ member z order
shifted-has [] order t f s z = refl
shifted-has (p ∷ shifts) order t f s z =
    let same : (y : ℕ) → member y (right_after p.0 p.1 (without p.0 order)) ≡ member y order =
    put_after-has p.0 p.1 order (f p.0 (member-head p.0 (firsts shifts))) (s p.1 (member-head p.1 (seconds shifts))) (not_itself p.1 p.0 (firsts shifts) t.0) in
    shifted-has shifts (right_after p.0 p.1 (without p.0 order)) t.1 (λ x m. same x ∙ f x (member-tail x p.0 (firsts shifts) m))
    (λ x m. same x ∙ s x (member-tail x p.1 (seconds shifts) m)) z
    ∙ same z

-- after all shifts an order ascends by the ranks after them
pub shifted-ascends : (r : ℕ → ℕ) (shifts : List (ℕ × ℕ)) (order : List ℕ) → AscendsBy r order → AreInTurn shifts
    → ((x : ℕ) → member x (firsts shifts) ≡ true → member x order ≡ true) → ((x : ℕ) → member x (seconds shifts) ≡ true → member x order ≡ true)
    → AscendsBy (place_after r shifts) (shifted shifts order)
shifted-ascends r [] order a t f s = a
shifted-ascends r (p ∷ shifts) order a t f s =
    let ne : p.1 ≢ p.0 = not_itself p.1 p.0 (firsts shifts) t.0 in
    let same : (y : ℕ) → member y (right_after p.0 p.1 (without p.0 order)) ≡ member y order =
    put_after-has p.0 p.1 order (f p.0 (member-head p.0 (firsts shifts))) (s p.1 (member-head p.1 (seconds shifts))) ne in
    shifted-ascends (moved r p.0 p.1) shifts (right_after p.0 p.1 (without p.0 order))
    (put_after-ascends r p.0 p.1 order a (s p.1 (member-head p.1 (seconds shifts))) ne) t.1
    (λ x m. same x ∙ f x (member-tail x p.0 (firsts shifts) m)) (λ x m. same x ∙ s x (member-tail x p.1 (seconds shifts) m))

-- a list in the order of a test
pub Orders-from_Ascends : (lt : ℕ → ℕ → Bool) (r : ℕ → ℕ) (xs : List ℕ) → ((y z : ℕ) → member y xs ≡ true → member z xs ≡ true → r y < r z
    → (lt y z ≡ true) × (lt z y ≡ false)) → AscendsBy r xs → Orders lt xs
Orders-from_Ascends lt r [] h a = tt
Orders-from_Ascends lt r (x ∷ xs) h a = (
  λ z m. h x z (member-head x xs) (member-tail z x xs m) (a.0 z m),
  Orders-from_Ascends lt r xs (λ y z my mz. h y z (member-tail y x xs my) (member-tail z x xs mz)) a.1,
)

-- an ordered list in front of another whose members all come later is ordered with it
pub Orders-append : (lt : ℕ → ℕ → Bool) (xs ys : List ℕ) → Orders lt xs → Orders lt ys
    → ((y z : ℕ) → member y xs ≡ true → member z ys ≡ true → (lt y z ≡ true) × (lt z y ≡ false)) → Orders lt (xs ++ ys)
Orders-append lt [] ys ox oy cross = oy
Orders-append lt (x ∷ xs) ys ox oy cross = (
  λ z m. elim (or_cases (member z xs) (member z ys) (sym (list_any-append (eqb z) xs ys) ∙ m)) [ inl k ↦ ox.0 z k | inr k ↦ cross x z (member-head x xs) k ],
  Orders-append lt xs ys ox.1 oy (λ y z my mz. cross y z (member-tail y x xs my) mz),
)

-- a list ordered by a test that nothing passes with itself has each once
pub Orders-distinct : (lt : ℕ → ℕ → Bool) (xs : List ℕ) → ((z : ℕ) → lt z z ≡ false) → Orders lt xs → Distinct xs
Orders-distinct lt [] i o = tt
Orders-distinct lt (x ∷ xs) i o = (false_from_ne_true _ (λ m. true≢false (sym (o.0 x m).0 ∙ i x)), Orders-distinct lt xs i o.1)

-- the place behind another number is one later with one in front
place-other : (z y : ℕ) (ys : List ℕ) → z ≢ y → place_of z (y ∷ ys) + 1 ≡ suc (place_of z ys + 1)
place-other z y ys ne = let k : place_of z (y ∷ ys) ≡ suc (place_of z ys) = ap (λ b. cond b 0 (suc (place_of z ys))) (ne_eqb z y ne) in omega (arith, k)

-- the place behind the first number is 1
place-here : (z y : ℕ) (ys : List ℕ) → z ≡ y → place_of z (y ∷ ys) + 1 ≡ suc 0
place-here z y ys e = let k : place_of z (y ∷ ys) ≡ 0 = ap (λ b. cond b 0 (suc (place_of z ys))) (eq-eqb z y e) in omega (arith, k)

-- how many pass after `z`
pub later-count : (lt : ℕ → ℕ → Bool) (q : ℕ → Bool) (z : ℕ) (xs : List ℕ) → ((z : ℕ) → lt z z ≡ false) → Orders lt xs → member z xs ≡ true
    → count_by q (drop (place_of z xs + 1) xs) ≡ count_by (λ y. q y && lt z y) xs
later-count lt q z [] i o m = absurd (false≢true m)
later-count lt q z (y ∷ ys) i o m =
    let both : ℕ → Bool = λ n. q n && lt z n in
    elim (cases_eq z y) [
      | inl e ↦
          let no_more : both y ≡ false = and-fails (q y) (lt z y) (ap (lt z) (sym e) ∙ i z) in
          let all : count_by q ys ≡ count_by both ys = count-agree q both ys (λ n k. and-yes (q n) (lt z n) (ap (λ v. lt v n) e ∙ (o.0 n k).0)) in
          ap (λ n. count_by q (drop n (y ∷ ys))) (place-here z y ys e) ∙ (all ∙ sym (count-no both y ys no_more))
      | inr ne ↦
          let m' : member z ys ≡ true = member-other z y ys ne m in
          let no_more : both y ≡ false = and-fails (q y) (lt z y) (o.0 z m').1 in
          ap (λ n. count_by q (drop n (y ∷ ys))) (place-other z y ys ne) ∙ (later-count lt q z ys i o.1 m' ∙ sym (count-no both y ys no_more))
    ]
