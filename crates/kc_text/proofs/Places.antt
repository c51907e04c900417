-- Dense numbers.
use Rattle.std.proofs.Common.{◌≡◌, ◌<◌, ◌+◌, ℕ, suc, zero, Bool, true, false, cond, ◌||◌, List, [], ◌∷◌, ◌++◌, length, get_or, take, nat_eq, nat_lt}
use Rattle.std.proofs.Common.{refl, sym, ap, subst, ◌∙◌, arith, inl, inr, eq-eqb, lt-ltb, le-ltb, eqb-true, min, max, Option, Some, None, not}
use Rattle.std.specs.Prelude.{All}
use Rattle.std.specs.List.{filter_map, position_or_len, cons_option}
use Rattle.std.specs.List.Sorted.{IsStrictlyIncreasing}
use Rattle.std.specs.Set.{is_member, distinct_count}
use Rattle.std.specs.List.{IsDistinct}
use Rattle.std.specs.Cmp.{nat_eq_equiv}
use Rattle.std.proofs.lemmas.Map.Made.{length-from_keys}
use Rattle.std.proofs.lemmas.Bool.{cases_Bool, cases_lt, cases_eq, ne_eqb, or_left, or_right, false≢true}
use Rattle.std.proofs.lemmas.List.Sums.{position_or_len_is}
use Rattle.std.proofs.lemmas.List.Elements.{All-cons, All-nil, filter_map-append}
use Rattle.std.proofs.lemmas.List.{take_more}
use Rattle.std.proofs.lemmas.Map.Keys.{IsDistinct-from_apart, sorted_from_strictly_increasing, below_from_sorted}
use Rattle.kc_text.specs.Meaning.{ends}
use Rattle.kc_text.specs.Inputs.{AreIds, place, numbered, between}

-- in ascending ids, the place of an id is where it stands
pub place-found : (ids : List ℕ) (x i : ℕ) → IsStrictlyIncreasing ids → i < length ids → get_or ids i 0 ≡ x → place ids x ≡ i
place-found ids x i up l e =
    position_or_len_is (nat_eq x) ids i 0 (omega arith)
    (λ k h.
    ne_eqb x (get_or ids k 0)
    (λ s.
    let lt : get_or ids k 0 < get_or ids i 0 = below_from_sorted ids k i 0 (sorted_from_strictly_increasing ids up) h l in
    absurd (omega arith)))
    (λ _. eq-eqb x (get_or ids i 0) (sym e))

-- the place of an id that is there is below the number of ids
pub place-below : (ids : List ℕ) (x : ℕ) → is_member nat_eq ids x ≡ true → place ids x < length ids
place-below [] x h = absurd (false≢true h)
place-below (y ∷ ys) x h = elim (cases_Bool (nat_eq x y)) [
  | inl t ↦ let z : place (y ∷ ys) x ≡ 0 = ap (λ (b : Bool). cond (not b) (1 + position_or_len (nat_eq x) ys) 0) t in omega arith
  | inr f ↦
      let z : place (y ∷ ys) x ≡ 1 + place ys x = ap (λ (b : Bool). cond (not b) (1 + position_or_len (nat_eq x) ys) 0) f in
      let r : place ys x < length ys = place-below ys x (sym (ap (λ (b : Bool). b || is_member nat_eq ys x) f) ∙ h) in
      omega arith
]

-- the first end of an edge is among the ends of all
pub first_end : (es : List (ℕ × ℕ)) (i : ℕ) → i < length es → is_member nat_eq (ends es) (get_or es i (0, 0)).0 ≡ true
first_end [] i l = absurd (omega arith)
first_end (e ∷ es) zero l = or_left (nat_eq e.0 e.0) _ (eq-eqb e.0 e.0 refl)
first_end (e ∷ es) (suc i) l = or_right (nat_eq (get_or es i (0, 0)).0 e.0) _ (or_right (nat_eq (get_or es i (0, 0)).0 e.1) _ (first_end es i (omega arith)))

-- the second end of an edge is among the ends of all
pub second_end : (es : List (ℕ × ℕ)) (i : ℕ) → i < length es → is_member nat_eq (ends es) (get_or es i (0, 0)).1 ≡ true
second_end [] i l = absurd (omega arith)
second_end (e ∷ es) zero l = or_right (nat_eq e.1 e.0) _ (or_left (nat_eq e.1 e.1) _ (eq-eqb e.1 e.1 refl))
second_end (e ∷ es) (suc i) l = or_right (nat_eq (get_or es i (0, 0)).1 e.0) _ (or_right (nat_eq (get_or es i (0, 0)).1 e.1) _ (second_end es i (omega arith)))

-- a pair of two numbers below a bound, the lesser one first
abbrev pub Within : ℕ → ℕ × ℕ → Type 0
Within n p = (p.0 < p.1) × (p.1 < n)

-- the pair between two numbers below a bound, put in front of such pairs, is such a pair
between-within : (u v n : ℕ) (rest : List (ℕ × ℕ)) → u < n → v < n → All (Within n) rest → All (Within n) (cons_option (between u v) rest)
between-within u v n rest lu lv h = elim (cases_lt u v) [
  | inl l ↦
      subst (λ (b : Bool). All (Within n) (cons_option (cond b (Some (u, v)) (cond (nat_lt v u) (Some (v, u)) None)) rest))
      (sym (lt-ltb u v l)) (All-cons (Within n) (u, v) rest (l, lv) h)
  | inr g ↦ subst (λ (b : Bool). All (Within n) (cons_option (cond b (Some (u, v)) (cond (nat_lt v u) (Some (v, u)) None)) rest)) (sym (le-ltb u v g))
      (elim (cases_lt v u) [
        | inl l ↦
            subst (λ (b : Bool). All (Within n) (cons_option (cond b (Some (v, u)) None) rest)) (sym (lt-ltb v u l))
            (All-cons (Within n) (v, u) rest (l, lu) h)
        | inr g' ↦ subst (λ (b : Bool). All (Within n) (cons_option (cond b (Some (v, u)) None) rest)) (sym (le-ltb v u g')) h
      ])
]

-- the edges between places of ids are pairs below the number of ids, the lesser place first
pub numbered-within : (ids : List ℕ) (es : List (ℕ × ℕ)) → ((x : ℕ) → is_member nat_eq (ends es) x ≡ true → is_member nat_eq ids x ≡ true)
    → All (Within (length ids)) (filter_map (numbered ids) es)
numbered-within ids [] h = All-nil (Within (length ids))
numbered-within ids (e ∷ es) h =
    between-within (place ids e.0) (place ids e.1) (length ids) (filter_map (numbered ids) es)
    (place-below ids e.0 (h e.0 (first_end (e ∷ es) 0 (omega arith)))) (place-below ids e.1 (h e.1 (second_end (e ∷ es) 0 (omega arith))))
    (numbered-within ids es (λ x m. h x (or_right (nat_eq x e.0) _ (or_right (nat_eq x e.1) _ m))))

-- what edges give, with one edge more taken
pub filter_map_more : (h : ℕ × ℕ → Option (ℕ × ℕ)) (es : List (ℕ × ℕ)) (i : ℕ) → i < length es
    → filter_map h (take (i + 1) es) ≡ filter_map h (take i es) ++ cons_option (h (get_or es i (0, 0))) []
filter_map_more h es i l = ap (filter_map h) (take_more es i (0, 0) l) ∙ filter_map-append h (take i es) (get_or es i (0, 0) ∷ [])

-- the ids are as many as there are different names
pub length-AreIds : (named ids : List ℕ) → AreIds named ids → length ids ≡ distinct_count nat_eq named
length-AreIds named ids h =
    let distinct : IsDistinct nat_eq ids =
    IsDistinct-from_apart nat_eq ids
    (λ i j d l lj.
    ne_eqb _ _
    (λ s.
    let lt : get_or ids i d < get_or ids j d =
    below_from_sorted ids i j d (sorted_from_strictly_increasing ids h.ascending) l lj in
    absurd (omega arith))) in
    length-from_keys nat_eq_equiv ids named distinct h.exact

-- an id that is the first has the place 0
place-here : (y : ℕ) (ys : List ℕ) (x : ℕ) → nat_eq x y ≡ true → place (y ∷ ys) x ≡ 0
place-here y ys x h = ap (λ (b : Bool). cond (not b) (1 + position_or_len (nat_eq x) ys) 0) h

-- an id that is not the first stands one further than among the others
place-further : (y : ℕ) (ys : List ℕ) (x : ℕ) → nat_eq x y ≡ false → place (y ∷ ys) x ≡ 1 + place ys x
place-further y ys x h = ap (λ (b : Bool). cond (not b) (1 + position_or_len (nat_eq x) ys) 0) h

-- ids that stand at one place are equal
pub place-injective : (ids : List ℕ) (x y : ℕ) → is_member nat_eq ids x ≡ true → place ids x ≡ place ids y → x ≡ y
place-injective [] x y h e = absurd (false≢true h)
place-injective (z ∷ zs) x y h e = elim (cases_Bool (nat_eq x z)) [
  | inl xz ↦ elim (cases_Bool (nat_eq y z)) [
    | inl yz ↦ eqb-true x z xz ∙ sym (eqb-true y z yz)
    | inr yn ↦ absurd (omega (arith, place-here z zs x xz, place-further z zs y yn))
  ]
  | inr xn ↦ elim (cases_Bool (nat_eq y z)) [
    | inl yz ↦ absurd (omega (arith, place-further z zs x xn, place-here z zs y yz))
    | inr yn ↦
        place-injective zs x y (sym (ap (λ (b : Bool). b || is_member nat_eq zs x) xn) ∙ h)
        (omega (arith, place-further z zs x xn, place-further z zs y yn))
  ]
]

-- two different ids have different places, so one of these is lesser
pub places-differ : (ids : List ℕ) (x y : ℕ) → is_member nat_eq ids x ≡ true → (x ≡ y → ⊥) → min (place ids x) (place ids y) < max (place ids x) (place ids y)
places-differ ids x y h ne = elim (cases_eq (place ids x) (place ids y)) [ inl e ↦ absurd (ne (place-injective ids x y h e)) | inr differ ↦ omega arith ]
