-- The order after moves: the low vertices, those that moved, the others.
use Rattle.std.proofs.Common.{◌≡◌, ◌<◌, ℕ, Bool, true, false, cond, not, ◌&&◌, ◌||◌, List, [], ◌∷◌, ◌++◌, eqb, ltb, sym, ◌∙◌, ap, inl, inr, arith}
use Rattle.std.proofs.Common.{true≢false, lt_irrefl}
use Rattle.std.specs.List.{filter}
use Rattle.std.proofs.lemmas.Bool.{cases_Bool, and_parts, and_from, or_cases, false_from_ne_true, not-true}
use Rattle.std.proofs.lemmas.List.Folds.{list_any-append}
use Rattle.kc_lists.specs.Lists.{member, Distinct}
use Rattle.kc_lists.proofs.Counting.{member-filter, filter-member}
use Rattle.kc_graph.specs.Plans.{put_between}
use Rattle.kc_cert.specs.Ranks.{AscendsBy, Orders, part, then_after}
use Rattle.kc_cert.proofs.Placing.{Ascends-filter, Orders-from_Ascends, Orders-append}

-- a low vertex that did not move is in the first part
part-low : (r low : Bool) → low ≡ true → not r ≡ true → ◌≡◌ {A = ℕ} (cond r 1 (cond low 0 2)) 0
part-low r low a b = grind arith

-- a vertex that is not low, and did not move, is in the last part
part-high : (r low : Bool) → not low ≡ true → not r ≡ true → ◌≡◌ {A = ℕ} (cond r 1 (cond low 0 2)) 2
part-high r low a b = grind arith

-- within a part of those that did not move, the lesser rank stands first
same_part : (p q : ℕ) (r x : Bool) (y z : ℕ) → p ≡ q → r ≡ false → y < z → (ltb p q || (eqb p q && cond r x (ltb y z))) ≡ true
same_part p q r x y z e f l = grind arith

-- within a part of those that did not move, the greater rank doesn't stand first
same_part_back : (p q : ℕ) (r x : Bool) (y z : ℕ) → p ≡ q → r ≡ false → y < z → (ltb q p || (eqb q p && cond r x (ltb z y))) ≡ false
same_part_back p q r x y z e f l = grind arith

-- within the part of those that moved, the one that is inside first stands first
rise_part : (p q : ℕ) (r x : Bool) (y z : ℕ) → p ≡ q → r ≡ true → y < z → (ltb p q || (eqb p q && cond r (ltb y z) x)) ≡ true
rise_part p q r x y z e f l = grind arith

-- within the part of those that moved, the one that is inside later doesn't stand first
rise_part_back : (p q : ℕ) (r x : Bool) (y z : ℕ) → p ≡ q → r ≡ true → y < z → (ltb q p || (eqb q p && cond r (ltb z y) x)) ≡ false
rise_part_back p q r x y z e f l = grind arith

-- what is in an earlier part stands first
other_part : (p q : ℕ) (x : Bool) → p < q → (ltb p q || (eqb p q && x)) ≡ true
other_part p q x l = grind arith

-- what is in a later part doesn't stand first
other_part_back : (p q : ℕ) (x : Bool) → p < q → (ltb q p || (eqb q p && x)) ≡ false
other_part_back p q x l = grind arith

-- what is left by a test are the members that pass
pub filter-has : (p : ℕ → Bool) (z : ℕ) (xs : List ℕ) → member z (filter p xs) ≡ (member z xs && p z)
filter-has p z xs = elim (cases_Bool (member z (filter p xs))) [
  | inl m ↦ let k = member-filter p z xs m in m ∙ sym (and_from (member z xs) (p z) k.0 k.1)
  | inr n ↦ n ∙ sym (false_from_ne_true _ (λ t. let k = and_parts (member z xs) (p z) t in true≢false (sym (filter-member p z xs k.0 k.1) ∙ n)))
]

-- a member is one of those that moved, of the low others or of the rest
member-three_ways : (m a low f g : Bool) → (a ≡ true → m ≡ true) → f ≡ (m && (low && not a)) → g ≡ (m && (not low && not a)) → (f || (a || g)) ≡ m
member-three_ways m a low f g sub hf hg = grind arith

-- nothing is less than itself, whichever part and place are compared
pub not_itself : (p : ℕ) (r : Bool) (n m : ℕ) → (ltb p p || (eqb p p && cond r (ltb n n) (ltb m m))) ≡ false
not_itself p r n m = grind arith

-- a list that ascends by ranks has each number once
pub Ascends-distinct : (r : ℕ → ℕ) (xs : List ℕ) → AscendsBy r xs → Distinct xs
Ascends-distinct r [] a = tt
Ascends-distinct r (x ∷ xs) a = (false_from_ne_true _ (λ m. lt_irrefl (r x) (a.0 x m)), Ascends-distinct r xs a.1)

-- the order after the moves is that of `then_after`
pub final-orders : (is_low : ℕ → Bool) (cands : List ℕ) (inside place : ℕ → ℕ) (order : List ℕ) → AscendsBy inside cands → AscendsBy place order
    → Orders (then_after is_low cands inside place) (put_between is_low cands order)
final-orders is_low cands inside place order up a =
    let lt : ℕ → ℕ → Bool = then_after is_low cands inside place in
    let at : ℕ → ℕ = part is_low cands in
    let low : ℕ → Bool = λ y. is_low y && not (member y cands) in
    let high : ℕ → Bool = λ y. not (is_low y) && not (member y cands) in
    let in_low : (y : ℕ) → member y (filter low order) ≡ true → at y ≡ 0 = λ y m.
    let k = and_parts (is_low y) (not (member y cands)) (member-filter low y order m).1 in part-low (member y cands) (is_low y) k.0 k.1 in
    let in_high : (y : ℕ) → member y (filter high order) ≡ true → at y ≡ 2 = λ y m.
    let k = and_parts (not (is_low y)) (not (member y cands)) (member-filter high y order m).1 in part-high (member y cands) (is_low y) k.0 k.1 in
    let in_rise : (y : ℕ) → member y cands ≡ true → at y ≡ 1 = λ y m. ap (λ b. cond b 1 (cond (is_low y) 0 2)) m in
    let no_low : (y : ℕ) → member y (filter low order) ≡ true → member y cands ≡ false =
    λ y m. not-true _ (and_parts (is_low y) (not (member y cands)) (member-filter low y order m).1).1 in
    let no_high : (y : ℕ) → member y (filter high order) ≡ true → member y cands ≡ false =
    λ y m. not-true _ (and_parts (not (is_low y)) (not (member y cands)) (member-filter high y order m).1).1 in
    let by_place : (y z : ℕ) → at y ≡ at z → member y cands ≡ false → member z cands ≡ false → place y < place z
    → (lt y z ≡ true) × (lt z y ≡ false) = λ y z e ny nz l. (
      same_part (at y) (at z) (member y cands) (ltb (inside y) (inside z)) (place y) (place z) e ny l,
      same_part_back (at y) (at z) (member z cands) (ltb (inside z) (inside y)) (place y) (place z) e nz l,
    ) in
    let by_rank : (y z : ℕ) → at y ≡ at z → member y cands ≡ true → member z cands ≡ true → inside y < inside z
    → (lt y z ≡ true) × (lt z y ≡ false) = λ y z e ny nz l. (
      rise_part (at y) (at z) (member y cands) (ltb (place y) (place z)) (inside y) (inside z) e ny l,
      rise_part_back (at y) (at z) (member z cands) (ltb (place z) (place y)) (inside y) (inside z) e nz l,
    ) in
    let by_part : (y z : ℕ) → at y < at z → (lt y z ≡ true) × (lt z y ≡ false) = λ y z l. (
      other_part (at y) (at z) (cond (member y cands) (ltb (inside y) (inside z)) (ltb (place y) (place z))) l,
      other_part_back (at y) (at z) (cond (member z cands) (ltb (inside z) (inside y)) (ltb (place z) (place y))) l,
    ) in
    Orders-append lt (filter low order) (cands ++ filter high order)
    (Orders-from_Ascends lt place (filter low order)
    (λ y z my mz l. by_place y z (in_low y my ∙ sym (in_low z mz)) (no_low y my) (no_low z mz) l) (Ascends-filter place low order a))
    (Orders-append lt cands (filter high order) (Orders-from_Ascends lt inside cands (λ y z my mz l. by_rank y z (in_rise y my
    ∙ sym (in_rise z mz)) my mz l) up) (Orders-from_Ascends lt place (filter high order) (λ y z my mz l. by_place y z (in_high y my
    ∙ sym (in_high z mz)) (no_high y my) (no_high z mz) l) (Ascends-filter place high order a))
    (λ y z my mz. by_part y z (omega (arith, in_rise y my, in_high z mz))))
    (λ y z my mz. by_part y z (elim (or_cases (member z cands) (member z (filter high order)) (sym (list_any-append (eqb z) cands (filter high order)) ∙ mz)) [
      | inl k ↦ omega (arith, in_low y my, in_rise z k)
      | inr k ↦ omega (arith, in_low y my, in_high z k)
    ]))

-- the order after the moves has the same vertices
pub final-has : (is_low : ℕ → Bool) (cands : List ℕ) (order : List ℕ) → ((x : ℕ) → member x cands ≡ true → member x order ≡ true) → (z : ℕ)
    → member z (put_between is_low cands order) ≡ member z order
final-has is_low cands order sub z =
    let low : ℕ → Bool = λ y. is_low y && not (member y cands) in
    let high : ℕ → Bool = λ y. not (is_low y) && not (member y cands) in
    list_any-append (eqb z) (filter low order) (cands ++ filter high order)
    ∙ (ap (λ b. member z (filter low order) || b) (list_any-append (eqb z) cands (filter high order)) ∙
    member-three_ways (member z order) (member z cands) (is_low z) (member z (filter low order)) (member z (filter high order)) (sub z)
    (filter-has low z order) (filter-has high z order))

-- no vertex stands after itself
pub after-itself : (is_low : ℕ → Bool) (cands : List ℕ) (inside place : ℕ → ℕ) (z : ℕ) → then_after is_low cands inside place z z ≡ false
after-itself is_low cands inside place z = not_itself (part is_low cands z) (member z cands) (inside z) (place z)
