-- Lists in which each is related to the next.
use Rattle.std.proofs.Common.{◌≡◌, ℕ, true, List, [], ◌∷◌, sym, subst, inl, inr, arith}
use Rattle.std.proofs.lemmas.Bool.{false≢true}
use Rattle.kc_lists.specs.Lists.{member, Follows, InOrder}
use Rattle.kc_lists.proofs.Members.{member-head, member-tail, member-cases}
use Rattle.kc_words.specs.Order.{Labels, PairBelow}

-- a relation that goes on relates the first to all behind it
pub Follows-all : (R : ℕ → ℕ → Type 0) → ((x y z : ℕ) → R x y → R y z → R x z) → (x z : ℕ) (ys : List ℕ) → Follows R x ys → member z ys ≡ true → R x z
Follows-all R t x z [] h m = absurd (false≢true m)
Follows-all R t x z (y ∷ ys) h m = elim (member-cases z y ys m) [ inl e ↦ subst (R x) (sym e) h.0 | inr k ↦ t x y z h.0 (Follows-all R t y z ys h.1 k) ]

-- what is behind the first of a list in order is in order
pub InOrder-tail : (R : ℕ → ℕ → Type 0) (x : ℕ) (xs : List ℕ) → InOrder R (x ∷ xs) → InOrder R xs
InOrder-tail R x [] h = tt
InOrder-tail R x (y ∷ xs) h = h.1

-- what follows a number by a relation follows it by one that is weaker on the members
pub Follows-mono : (R S : ℕ → ℕ → Type 0) (x : ℕ) (xs : List ℕ)
    → ((y z : ℕ) → member y (x ∷ xs) ≡ true → member z (x ∷ xs) ≡ true → R y z → S y z) → Follows R x xs → Follows S x xs
Follows-mono R S x [] f h = tt
Follows-mono R S x (y ∷ ys) f h = (
  f x y (member-head x (y ∷ ys)) (member-tail y x (y ∷ ys) (member-head y ys)) h.0,
  Follows-mono R S y ys (λ u v p q r. f u v (member-tail u x (y ∷ ys) p) (member-tail v x (y ∷ ys) q) r) h.1,
)

-- a list in order for a relation is in order for one that is weaker on its members
pub InOrder-mono : (R S : ℕ → ℕ → Type 0) (xs : List ℕ)
    → ((y z : ℕ) → member y xs ≡ true → member z xs ≡ true → R y z → S y z) → InOrder R xs → InOrder S xs
InOrder-mono R S [] f h = tt
InOrder-mono R S (x ∷ xs) f h = Follows-mono R S x xs f h

-- no pair is less than another that is less than it
pub PairBelow-asym : (a : Labels) (x y : ℕ) → PairBelow a x y → PairBelow a y x → ⊥
PairBelow-asym a x y h k = elim h [
  | inl t ↦ elim k [ inl u ↦ absurd (omega (arith, t, u)) | inr e ↦ absurd (omega (arith, t, e.0)) ]
  | inr e ↦ elim k [ inl u ↦ absurd (omega (arith, u, e.0)) | inr e' ↦ absurd (omega (arith, e.1, e'.1)) ]
]
