-- How single stores keep the list in order.
use Rattle.std.proofs.Common.{◌≡◌, ℕ, ◌<◌, true, false, cond, List, [], ◌∷◌, ◌++◌, eqb, sym, ◌∙◌, ap, subst, ◌⊎◌, inl, inr, arith}
use Rattle.std.proofs.lemmas.Bool.{ne_eqb}
use Rattle.std.proofs.lemmas.List.{append_assoc}
use Rattle.kc_lists.specs.Lists.{member, without, Follows, InOrder}
use Rattle.kc_words.specs.Order.{Labels, PairBelow}
use Rattle.kc_list.specs.Places.{Before, IfFirst}
use Rattle.kc_lists.proofs.Members.{member-head, member-tail, member-append_right, without-append}
use Rattle.kc_words.proofs.Ordering.{InOrder-tail, InOrder-mono}

-- something holds of the first of a list, where it has one
abbrev pub AtFirst : (ℕ → Type 0) → List ℕ → Type 0
AtFirst P ys = IfFirst P ys

-- something holds of the last of a list, where it has one
abbrev pub AtLast : (ℕ → Type 0) → List ℕ → Type 0
AtLast P [] = Unit {0}
AtLast P (x ∷ []) = P x
AtLast P (x ∷ y ∷ ys) = AtLast P (y ∷ ys)

-- what is before another item has the lesser pair
pub Before-pairs : (a : Labels) (x y : ℕ) → Before a x y → PairBelow a x y
Before-pairs a x y h = elim h [ inl s ↦ inr (ap a.top s.0, s.1) | inr t ↦ inl t ]

-- what is before an item that is before a third is before the third
pub Before-then : (a : Labels) (x y z : ℕ) → Before a x y → Before a y z → Before a x z
Before-then a x y z h k =
    elim h [
      | inl s ↦ elim k [ inl s' ↦ inl (s.0 ∙ s'.0, omega (arith, s.1, s'.1)) | inr t ↦ inr (omega (arith, ap a.top s.0, t)) ]
      | inr t ↦ elim k [ inl s' ↦ inr (omega (arith, ap a.top s'.0, t)) | inr t' ↦ inr (omega (arith, t, t')) ]
    ]

-- a list in two parts: both are in order, and related where they meet
pub record Parts (R : ℕ → ℕ → Type 0) (l r : List ℕ) : Type 0 where
  pub left : InOrder R l
  pub right : InOrder R r
  pub seam : AtLast (λ x. AtFirst (R x) r) l

-- two lists that are in order when joined are so each, and related where they meet
pub order-parts : (R : ℕ → ℕ → Type 0) (l r : List ℕ) → InOrder R (l ++ r) → Parts R l r
order-parts R [] r h = record { left = tt; right = h; seam = tt }
order-parts R (x ∷ []) [] h = record { left = tt; right = tt; seam = tt }
order-parts R (x ∷ []) (y ∷ r) h = record { left = tt; right = h.1; seam = h.0 }
order-parts R (x ∷ z ∷ l) r h = let p = order-parts R (z ∷ l) r h.1 in record { left = (h.0, p.left); right = p.right; seam = p.seam }

-- two lists in order that are related where they meet are in order when joined
pub order-joined : (R : ℕ → ℕ → Type 0) (l r : List ℕ) → Parts R l r → InOrder R (l ++ r)
order-joined R [] r p = p.right
order-joined R (x ∷ []) [] p = tt
order-joined R (x ∷ []) (y ∷ r) p = (p.seam, p.right)
order-joined R (x ∷ z ∷ l) r p = (p.left.0, order-joined R (z ∷ l) r (record { left = p.left.1; right = p.right; seam = p.seam }))

-- a list in order is in order with one taken out
pub InOrder-taken : (R : ℕ → ℕ → Type 0) → ((x y z : ℕ) → R x y → R y z → R x z) → (y : ℕ) (l r : List ℕ) → InOrder R (l ++ y ∷ r) → InOrder R (l ++ r)
InOrder-taken R t y [] [] h = tt
InOrder-taken R t y [] (z ∷ r) h = h.1
InOrder-taken R t y (x ∷ []) [] h = tt
InOrder-taken R t y (x ∷ []) (z ∷ r) h = (t x y z h.0 h.1.0, h.1.1)
InOrder-taken R t y (x ∷ w ∷ l) r h = (h.0, InOrder-taken R t y (w ∷ l) r h.1)

-- a list in order is in order with one put in that fits between its neighbours
pub InOrder-put : (R : ℕ → ℕ → Type 0) (y : ℕ) (l r : List ℕ) → InOrder R (l ++ r) → AtLast (λ x. R x y) l → AtFirst (R y) r → InOrder R (l ++ y ∷ r)
InOrder-put R y [] [] h a b = tt
InOrder-put R y [] (z ∷ r) h a b = (b, h)
InOrder-put R y (x ∷ []) [] h a b = (a, tt)
InOrder-put R y (x ∷ []) (z ∷ r) h a b = (a, (b, h.1))
InOrder-put R y (x ∷ w ∷ l) r h a b = (h.0, InOrder-put R y (w ∷ l) r h.1 a b)

-- what follows y by a relation that goes on follows what is related to y
Follows-from : (R : ℕ → ℕ → Type 0) → ((x y z : ℕ) → R x y → R y z → R x z) → (x y : ℕ) (zs : List ℕ) → R x y → Follows R y zs → Follows R x zs
Follows-from R t x y [] r h = tt
Follows-from R t x y (z ∷ zs) r h = (t x y z r h.0, h.1)

-- what follows y by a relation that goes on follows it without x
Follows-without : (R : ℕ → ℕ → Type 0) → ((x y z : ℕ) → R x y → R y z → R x z) → (x y : ℕ) (ys : List ℕ) → Follows R y ys → Follows R y (without x ys)
Follows-without R t x y [] h = tt
Follows-without R t x y (z ∷ zs) h =
    elim (eqb x z) as (λ b. Follows R y (cond b (without x zs) (z ∷ without x zs))) [
      | true ↦ Follows-without R t x y zs (Follows-from R t y z zs h.0 h.1)
      | false ↦ (h.0, Follows-without R t x z zs h.1)
    ]

-- a list in order by a relation that goes on is in order without x
pub InOrder-without : (R : ℕ → ℕ → Type 0) → ((x y z : ℕ) → R x y → R y z → R x z) → (x : ℕ) (ys : List ℕ) → InOrder R ys → InOrder R (without x ys)
InOrder-without R t x [] h = tt
InOrder-without R t x (y ∷ []) h = elim (eqb x y) as (λ b. InOrder R (cond b [] (y ∷ []))) [ true ↦ tt | false ↦ tt ]
InOrder-without R t x (y ∷ z ∷ zs) h =
    elim (eqb x y) as (λ b. InOrder R (cond b (without x (z ∷ zs)) (y ∷ without x (z ∷ zs)))) [
      | true ↦ InOrder-without R t x (z ∷ zs) h.1
      | false ↦ Follows-without R t x y (z ∷ zs) h
    ]

-- what holds of the first, and passes on, holds of the first that stays
pub AtFirst-without : (R : ℕ → ℕ → Type 0) (P : ℕ → Type 0) → ((y z : ℕ) → P y → R y z → P z) → (x : ℕ) (ys : List ℕ) → InOrder R ys → AtFirst P ys
    → AtFirst P (without x ys)
AtFirst-without R P t x [] h p = tt
AtFirst-without R P t x (y ∷ []) h p = elim (eqb x y) as (λ b. AtFirst P (cond b [] (y ∷ []))) [ true ↦ tt | false ↦ p ]
AtFirst-without R P t x (y ∷ z ∷ zs) h p =
    elim (eqb x y) as (λ b. AtFirst P (cond b (without x (z ∷ zs)) (y ∷ without x (z ∷ zs)))) [
      | true ↦ AtFirst-without R P t x (z ∷ zs) h.1 (t y z p h.0)
      | false ↦ p
    ]

-- what follows from something that holds of the first holds of it too
pub AtFirst-mono : (P Q : ℕ → Type 0) (xs : List ℕ) → ((x : ℕ) → member x xs ≡ true → P x → Q x) → AtFirst P xs → AtFirst Q xs
AtFirst-mono P Q [] f h = tt
AtFirst-mono P Q (x ∷ xs) f h = f x (member-head x xs) h

-- what follows from something that holds of the last holds of it too
pub AtLast-mono : (P Q : ℕ → Type 0) (xs : List ℕ) → ((x : ℕ) → member x xs ≡ true → P x → Q x) → AtLast P xs → AtLast Q xs
AtLast-mono P Q [] f h = tt
AtLast-mono P Q (x ∷ []) f h = f x (member-head x []) h
AtLast-mono P Q (x ∷ y ∷ xs) f h = AtLast-mono P Q (y ∷ xs) (λ z m. f z (member-tail z x (y ∷ xs) m)) h

-- what holds of an item that is put at the end holds of the last
pub AtLast-push : (P : ℕ → Type 0) (xs : List ℕ) (x : ℕ) → P x → AtLast P (xs ++ x ∷ [])
AtLast-push P [] x h = h
AtLast-push P (y ∷ []) x h = h
AtLast-push P (y ∷ z ∷ xs) x h = AtLast-push P (z ∷ xs) x h

-- two readings of the words agree on the group and labels of an item
pub record Agrees (a b : Labels) (x : ℕ) : Type 0 where
  pub group : b.group x ≡ a.group x
  pub bottom : b.bottom x ≡ a.bottom x
  pub top : b.top (b.group x) ≡ a.top (a.group x)

-- where two readings agree on two items, one is before the other by both
pub Before-agrees : (a b : Labels) (x y : ℕ) → Agrees a b x → Agrees a b y → Before a x y → Before b x y
Before-agrees a b x y p q h =
    elim h [
      | inl s ↦ inl (p.group ∙ (s.0 ∙ sym q.group), omega (arith, p.bottom, q.bottom, s.1))
      | inr t ↦ inr (omega (arith, p.top, q.top, t))
    ]

-- a list in order is in order by another reading that agrees on each of its items
pub order-agreed : (a b : Labels) (xs : List ℕ) → ((x : ℕ) → member x xs ≡ true → Agrees a b x) → InOrder (Before a) xs → InOrder (Before b) xs
order-agreed a b xs f h = InOrder-mono (Before a) (Before b) xs (λ y z p q r. Before-agrees a b y z (f y p) (f z q) r) h

-- a list stays in order where one item gets another place between its neighbours
pub order-replaced : (a b : Labels) (y : ℕ) (l r : List ℕ) → ((x : ℕ) → member x (l ++ r) ≡ true → Agrees a b x) → AtLast (λ x. Before b x y) l
    → AtFirst (Before b y) r → InOrder (Before a) (l ++ y ∷ r) → InOrder (Before b) (l ++ y ∷ r)
order-replaced a b y l r f p q h = InOrder-put (Before b) y l r (order-agreed a b (l ++ r) f (InOrder-taken (Before a) (Before-then a) y l r h)) p q

-- q stands beyond label `v` of group `g`: with a greater label in it, or in a later group
abbrev pub Beyond : Labels → ℕ → ℕ → ℕ → Type 0
Beyond a g v q = ((a.group q ≡ g) × (v < a.bottom q)) ⊎ (a.top g < a.top (a.group q))

-- what is behind an item beyond a label is beyond it too
pub Beyond-then : (a : Labels) (g v y z : ℕ) → Beyond a g v y → Before a y z → Beyond a g v z
Beyond-then a g v y z h k =
    elim h [
      | inl s ↦ elim k [ inl s' ↦ inl (sym s'.0 ∙ s.0, omega (arith, s.1, s'.1)) | inr t ↦ inr (omega (arith, ap a.top s.0, t)) ]
      | inr t ↦ elim k [ inl s' ↦ inr (omega (arith, ap a.top s'.0, t)) | inr t' ↦ inr (omega (arith, t, t')) ]
    ]

-- a list around p without x is what stands on both sides of p without x
pub without-around : (x p : ℕ) (l r : List ℕ) → (x ≡ p → ⊥) → without x (l ++ p ∷ r) ≡ without x l ++ p ∷ without x r
without-around x p l r ne = without-append x l (p ∷ r) ∙ ap (λ b. without x l ++ cond b (without x r) (p ∷ without x r)) (ne_eqb x p ne)

-- a list in order is in order with x right after p, where x has a label of the gap there
pub put_right_after : (a b : Labels) (x p g v : ℕ) (l r : List ℕ) → ((y : ℕ) → member y (without x (l ++ p ∷ r)) ≡ true → Agrees a b y) → (x ≡ p → ⊥)
    → b.group x ≡ g → b.bottom x ≡ v → b.top g ≡ a.top g → a.group p ≡ g → a.bottom p < v → AtFirst (Beyond a g v) r → InOrder (Before a) (l ++ p ∷ r)
    → InOrder (Before b) (without x l ++ p ∷ x ∷ without x r)
put_right_after a b x p g v l r f ne e-g e-v e-t p-g p-v room h =
    let around = without-around x p l r ne in
    let f' : (y : ℕ) → member y (without x l ++ p ∷ without x r) ≡ true → Agrees a b y = λ y m. f y (ap (member y) around ∙ m) in
    let apart = append_assoc (without x l) (p ∷ []) (without x r) in
    let kept : InOrder (Before b) (without x l ++ p ∷ without x r) =
    order-agreed a b (without x l ++ p ∷ without x r) f' (subst (InOrder (Before a)) around (InOrder-without (Before a) (Before-then a) x (l ++ p ∷ r) h)) in
    let p-agrees : Agrees a b p = f' p (member-append_right p (without x l) (p ∷ without x r) (member-head p (without x r))) in
    let before : Before b p x = inl (p-agrees.group ∙ (p-g ∙ sym e-g), omega (arith, p-agrees.bottom, p-v, e-v)) in
    let rights : InOrder (Before a) r = InOrder-tail (Before a) p r ((order-parts (Before a) l (p ∷ r) h).right) in
    let room' : AtFirst (Beyond a g v) (without x r) = AtFirst-without (Before a) (Beyond a g v) (Beyond-then a g v) x r rights room in
    let after : AtFirst (Before b x) (without x r) = AtFirst-mono (Beyond a g v) (Before b x) (without x r) (λ q m k.
    let q-agrees : Agrees a b q = f' q (member-append_right q (without x l) (p ∷ without x r) (member-tail q p (without x r) m)) in
    elim k [
      | inl s ↦ inl (e-g ∙ (sym s.0 ∙ sym q-agrees.group), omega (arith, q-agrees.bottom, e-v, s.1))
      | inr t ↦ inr (omega (arith, q-agrees.top, ap b.top e-g, e-t, t))
    ]) room' in
    subst (InOrder (Before b)) (append_assoc (without x l) (p ∷ []) (x ∷ without x r))
    (InOrder-put (Before b) x (without x l ++ p ∷ []) (without x r) (subst (InOrder (Before b)) (sym apart) kept)
    (AtLast-push (λ y. Before b y x) (without x l) p before) after)
