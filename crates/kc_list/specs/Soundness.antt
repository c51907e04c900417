-- That the labels order a list has one proof at most.
use mathlib.Core.Path.{ap, subst}
use mathlib.Core.Logic.{inl, inr}
use mathlib.Core.Bool.{Bool-set}
use native.Mathlib.Nat.{ℕ_set}
use Rattle.std.specs.Prelude.{ℕ, ◌+◌, ◌<◌, List, [], ◌∷◌, length, false}
use Rattle.std.specs.Coded.{×_prop, Unit-prop, le_prop}
use Rattle.std.specs.Cmp.{below_irrefl}
use Rattle.kc_lists.specs.Lists.{member, Distinct, Follows, InOrder}
use Rattle.kc_words.specs.Order.{Labels, labels}
use Rattle.kc_list.specs.Places.{Before, Placed, WordsKeepList}

-- that one pair is less, by the label in the group or by that of the group and never by both, has one proof at most
Before-prop : (a : Labels) (x y : ℕ) → IsProp (Before a x y)
Before-prop a x y (inl p) (inl q) = ap inl (×_prop (ℕ_set (a.group x) (a.group y)) le_prop p q)
Before-prop a x y (inl p) (inr t) = absurd (below_irrefl (a.top (a.group y)) (subst (λ (z : ℕ). a.top z < a.top (a.group y)) p.0 t))
Before-prop a x y (inr t) (inl p) = absurd (below_irrefl (a.top (a.group y)) (subst (λ (z : ℕ). a.top z < a.top (a.group y)) p.0 t))
Before-prop a x y (inr t) (inr u) = ap inr (le_prop t u)

-- that x and then the list are in order has one proof at most
Follows-prop : (a : Labels) (x : ℕ) (list : List ℕ) → IsProp (Follows (Before a) x list)
Follows-prop a x [] = Unit-prop
Follows-prop a x (y ∷ list) = ×_prop (Before-prop a x y) (Follows-prop a y list)

-- that a list is in order has one proof at most
InOrder-prop : (a : Labels) (list : List ℕ) → IsProp (InOrder (Before a) list)
InOrder-prop a [] = Unit-prop
InOrder-prop a (x ∷ list) = Follows-prop a x list

-- that no number comes twice in a list has one proof at most
Distinct-prop : (list : List ℕ) → IsProp (Distinct list)
Distinct-prop [] = Unit-prop
Distinct-prop (x ∷ list) = ×_prop (Bool-set (member x list) false) (Distinct-prop list)

-- that an item has a group and labels within their bounds has one proof at most
Placed-prop : (n : ℕ) (a : Labels) (x : ℕ) → IsProp (Placed n a x)
Placed-prop n a x p q = λ i. record {
  below = le_prop p.below q.below i;
  group_low = le_prop p.group_low q.group_low i;
  group_high = le_prop p.group_high q.group_high i;
  bottom_low = le_prop p.bottom_low q.bottom_low i;
  bottom_high = le_prop p.bottom_high q.bottom_high i;
  top_low = le_prop p.top_low q.top_low i;
  top_high = le_prop p.top_high q.top_high i;
}

-- that the words keep the list has one proof at most
pub WordsKeepList-prop : (n : ℕ) (ws list : List ℕ) → IsProp (WordsKeepList n ws list)
WordsKeepList-prop n ws list p q = λ i. record {
  size = ℕ_set (length ws) (n + n + 2) p.size q.size i;
  distinct = Distinct-prop list p.distinct q.distinct i;
  order = InOrder-prop (labels n ws) list p.order q.order i;
  inside = λ x k. Placed-prop n (labels n ws) x (p.inside x k) (q.inside x k) i;
  outside = λ x k o. ℕ_set ((labels n ws).group x) 0 (p.outside x k o) (q.outside x k o) i;
}
