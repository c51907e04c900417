-- Where no word differs at its second load, the four values say how the items stood after the collect's last prefix.
use Rattle.std.proofs.Common.{◌≡◌, ◌≢◌, ◌⊎◌, ℕ, ◌+◌, ◌<◌, true, List, [], ◌∷◌, ◌++◌, length, sym, ap, ◌∙◌, subst, inl, inr, arith}
use Rattle.std.proofs.lemmas.Bool.{false≢true}
use Rattle.std.proofs.lemmas.List.{append_assoc, length-append}
use mathlib.Core.List.{IsPrefix}
use Rattle.kc_lists.specs.Lists.{member, Distinct, place_of, InOrder}
use Rattle.kc_lists.proofs.Members.{member-head, member-cases, member-append, member-append_right, member-cut, Distinct-cut, place_of-cut}
use Rattle.kc_words.specs.ItemWord.{item_of}
use Rattle.kc_words.specs.GroupWord.{group_of}
use Rattle.kc_words.specs.Order.{Labels, labels, PairBelow}
use Rattle.kc_words.proofs.Ordering.{Follows-all, InOrder-tail, PairBelow-asym}
use Rattle.kc_table.specs.declared.view.Event.{Event}
use Rattle.kc_table.specs.Log.{PassSeen, TableName, value_at, words_after}
use Rattle.kc_table.specs.Legal.{Legal, IsVersioned}
use Rattle.kc_table.proofs.Fresh.{word-fresh}
use Rattle.kc_table.proofs.LegalLogs.{legal-prefix}
use Rattle.kc_table.proofs.Listed.{list-stands}
use Rattle.kc_table.proofs.Prefixes.{prefix_self, prefix_trans}
use Rattle.kc_order.specs.Collected.{Collected, IsCollect, Loaded, Held, AllHeld, PairLess, group_in, words_of}
use Rattle.kc_order.specs.Standing.{list_after, FindsSame, LoadsWord, StandsBefore}
use Rattle.kc_order.proofs.Reading.{ordered_after, found_in}

-- what stands before an item of a list in order is related to it
in_order-before : (R : ℕ → ℕ → Type 0) → ((x y z : ℕ) → R x y → R y z → R x z) → (x y : ℕ) (l r : List ℕ) → InOrder R (l ++ y ∷ r) → member x l ≡ true → R x y
in_order-before R t x y [] r h m = absurd (false≢true m)
in_order-before R t x y (z ∷ l) r h m =
    elim (member-cases x z l m) [
      | inl e ↦ subst (λ u. R u y) (sym e) (Follows-all R t z y (l ++ y ∷ r) h (member-append_right y l (y ∷ r) (member-head y r)))
      | inr k ↦ in_order-before R t x y l r (InOrder-tail R z (l ++ y ∷ r) h) k
    ]

-- a pair that is less than one that is less than a third is less than the third
pub pair-trans : (a : Labels) (x y z : ℕ) → PairBelow a x y → PairBelow a y z → PairBelow a x z
pair-trans a x y z h k =
    elim h [
      | inl lt ↦ elim k [ inl lt' ↦ inl (omega (arith, lt, lt')) | inr e ↦ inl (omega (arith, lt, e.0)) ]
      | inr e ↦ elim k [ inl lt ↦ inl (omega (arith, lt, e.0)) | inr e' ↦ inr (e.0 ∙ e'.0, omega (arith, e.1, e'.1)) ]
    ]

-- of two items of a list in order, the one with the lesser pair stands first
pub stands-first : (a : Labels) (x y : ℕ) (list : List ℕ) → InOrder (PairBelow a) list → Distinct list → member x list ≡ true
    → member y list ≡ true → x ≢ y → PairBelow a x y → place_of x list < place_of y list
stands-first a x y list order distinct x-in y-in differ less =
    let c = member-cut y list y-in in
    let apart = Distinct-cut y c.front c.back (subst Distinct c.is distinct) in
    let at-y : place_of y list ≡ length c.front = ap (place_of y) c.is ∙ place_of-cut y c.front c.back apart.0 in
    elim (member-append x c.front (y ∷ c.back) (ap (member x) (sym c.is) ∙ x-in)) [
      | inl in-front ↦
          let d = member-cut x c.front in-front in
          let split : list ≡ d.front ++ x ∷ (d.back ++ y ∷ c.back) = c.is ∙ (ap (λ l. l ++ y ∷ c.back) d.is ∙ append_assoc d.front (x ∷ d.back) (y ∷ c.back)) in
          let apart' = Distinct-cut x d.front (d.back ++ y ∷ c.back) (subst Distinct split distinct) in
          let at-x : place_of x list ≡ length d.front = ap (place_of x) split ∙ place_of-cut x d.front (d.back ++ y ∷ c.back) apart'.0 in
          omega (arith, at-x, at-y, ap length d.is, length-append d.front (x ∷ d.back))
      | inr in-back ↦ elim (member-cases x y c.back in-back) [
        | inl e ↦ absurd (differ e)
        | inr k ↦
            let d = member-cut x c.back k in
            let split : list ≡ (c.front ++ y ∷ d.front) ++ x ∷ d.back =
            c.is ∙ (ap (λ l. c.front ++ y ∷ l) d.is ∙ sym (append_assoc c.front (y ∷ d.front) (x ∷ d.back))) in
            absurd (PairBelow-asym a x y less
            (in_order-before (PairBelow a) (pair-trans a) y x (c.front ++ y ∷ d.front) d.back (subst (InOrder (PairBelow a)) split order)
            (member-append_right y c.front (y ∷ d.front) (member-head y d.front))))
      ]
    ]

-- a value that two loads gave was the word's after each prefix between them
held_between : (table : TableName) (l : Loaded) (m : List Event) (old new : PassSeen) → IsVersioned table.shape l.word → Held table l → IsPrefix l.prefix m
    → old.table ≡ table → IsPrefix m old.log → LoadsWord old new l.word l.value → l.value ≡ value_at table.opening m l.word
held_between table l m old new versioned held a begun b one =
    let is : new.table ≡ table = one.table ∙ begun in
    let q = new.log in
    let m_q : IsPrefix m q = prefix_trans m old.log q b one.longer in
    let legal : Legal table.shape table.opening q = subst (λ (t : TableName). Legal t.shape t.opening q) is one.legal in
    let again : l.value ≡ value_at table.opening q l.word = one.held ∙ ap (λ (t : TableName). value_at t.opening q l.word) is in
    held ∙ sym (word-fresh table.shape table.opening l.word l.prefix m q versioned a m_q (legal-prefix table.shape table.opening m q m_q legal) legal
    (sym held ∙ again))

-- all four values were their words' after the collect's last prefix
pub all_held : (c : Collected) (old new : PassSeen) → IsCollect c → old.table ≡ c.table → IsPrefix c.group_y.prefix old.log → FindsSame old (words_of c) new
    → AllHeld c
all_held c old new h begun before found =
    let p = found.0 in
    let item-x = found.1 in
    let q = found.2.0 in
    let item-y = found.2.1 in
    let r = found.2.2.0 in
    let group-x = found.2.2.1 in
    let s = found.2.2.2.0 in
    let group-y = found.2.2.2.1 in
    let m = c.group_y.prefix in
    let third : IsPrefix c.group_x.prefix m = h.third_last in
    let second : IsPrefix c.item_y.prefix m = prefix_trans c.item_y.prefix c.group_x.prefix m h.second_third third in
    let first : IsPrefix c.item_x.prefix m = prefix_trans c.item_x.prefix c.item_y.prefix m h.first_second second in
    let at-p = prefix_trans m old.log p.log before item-x.longer in
    let at-q = prefix_trans m p.log q.log at-p item-y.longer in
    let at-r = prefix_trans m q.log r.log at-q group-x.longer in
    let of-p = item-x.table ∙ begun in
    let of-q = item-y.table ∙ of-p in
    let of-r = group-x.table ∙ of-q in (
      held_between c.table c.item_x m old p (omega (arith, h.item_x_is), omega (arith, h.item_x_is, h.x_in)) h.item_x_held first begun before item-x,
      held_between c.table c.item_y m p q (omega (arith, h.item_y_is), omega (arith, h.item_y_is, h.y_in)) h.item_y_held second of-p at-p item-y,
      held_between c.table c.group_x m q r (omega (arith, h.group_x_is, h.x_listed), omega (arith, h.group_x_is, h.x_group)) h.group_x_held third of-q at-q
          group-x,
      held_between c.table c.group_y m r s (omega (arith, h.group_y_is, h.y_listed), omega (arith, h.group_y_is, h.y_group)) h.group_y_held (prefix_self m)
          of-r at-r group-y,
    )

-- what the words say at one moment: the pair of x is less
stood_at : (table : TableName) (m : List Event) (x y : ℕ) (ix iy gx gy : ℕ) → Legal table.shape table.opening m → x ≢ y
    → x < table.shape.items → y < table.shape.items → 0 < (item_of ix).group → 0 < (item_of iy).group
    → ix ≡ value_at table.opening m (1 + x) → iy ≡ value_at table.opening m (1 + y)
    → gx ≡ value_at table.opening m (table.shape.items + (item_of ix).group) → gy ≡ value_at table.opening m (table.shape.items + (item_of iy).group)
    → ((group_of gx).top < (group_of gy).top) ⊎ (((group_of gx).top ≡ (group_of gy).top) × ((item_of ix).bottom < (item_of iy).bottom))
    → StandsBefore x y (list_after table m)
stood_at table m x y ix iy gx gy legal differ x-in y-in x-some y-some ix-is iy-is gx-is gy-is less =
    let a = labels table.shape.items (words_after table.opening m) in
    let o = ordered_after table m legal in
    let x-here = found_in table m x ix legal x-in ix-is x-some in
    let y-here = found_in table m y iy legal y-in iy-is y-some in
    let group-x : a.group x ≡ (item_of ix).group = ap (λ v. (item_of v).group) (sym ix-is) in
    let group-y : a.group y ≡ (item_of iy).group = ap (λ v. (item_of v).group) (sym iy-is) in
    let bottom-x : a.bottom x ≡ (item_of ix).bottom = ap (λ v. (item_of v).bottom) (sym ix-is) in
    let bottom-y : a.bottom y ≡ (item_of iy).bottom = ap (λ v. (item_of v).bottom) (sym iy-is) in
    let top-x : a.top (a.group x) ≡ (group_of gx).top = ap a.top group-x ∙ ap (λ v. (group_of v).top) (sym gx-is) in
    let top-y : a.top (a.group y) ≡ (group_of gy).top = ap a.top group-y ∙ ap (λ v. (group_of v).top) (sym gy-is) in
    let below : PairBelow a x y = elim less [
      | inl lt ↦ inl (omega (arith, lt, top-x, top-y))
      | inr e ↦ inr (top-x ∙ (e.0 ∙ sym top-y), omega (arith, e.1, bottom-x, bottom-y))
    ] in
    record {
      first = x-here.0;
      second = y-here.0;
      before = stands-first a x y (list_after table m) o.pairs (list-stands table.shape table.opening m legal).listed.distinct x-here.0 y-here.0 differ below;
    }

-- of two items of a list in order, one has the lesser pair
pub one-less : (a : Labels) (x y : ℕ) (list : List ℕ) → InOrder (PairBelow a) list → member x list ≡ true → member y list ≡ true → x ≢ y
    → PairBelow a x y ⊎ PairBelow a y x
one-less a x y list order x-in y-in differ =
    let c = member-cut y list y-in in
    elim (member-append x c.front (y ∷ c.back) (ap (member x) (sym c.is) ∙ x-in)) [
      | inl in-front ↦ inl (in_order-before (PairBelow a) (pair-trans a) x y c.front c.back (subst (InOrder (PairBelow a)) c.is order) in-front)
      | inr in-back ↦ elim (member-cases x y c.back in-back) [
        | inl e ↦ absurd (differ e)
        | inr k ↦
            let d = member-cut x c.back k in
            let split : list ≡ (c.front ++ y ∷ d.front) ++ x ∷ d.back =
            c.is ∙ (ap (λ l. c.front ++ y ∷ l) d.is ∙ sym (append_assoc c.front (y ∷ d.front) (x ∷ d.back))) in
            inr
            (in_order-before (PairBelow a) (pair-trans a) y x (c.front ++ y ∷ d.front) d.back (subst (InOrder (PairBelow a)) split order)
            (member-append_right y c.front (y ∷ d.front) (member-head y d.front)))
      ]
    ]

-- where the pair of x is less, x stood first
pub stood_before : (c : Collected) → IsCollect c → AllHeld c → PairLess c → StandsBefore c.x c.y (list_after c.table c.group_y.prefix)
stood_before c h held less =
    let m = c.group_y.prefix in
    let at = λ (l : Loaded) (w : ℕ) (is : l.word ≡ w) (v : l.value ≡ value_at c.table.opening m l.word). v ∙ ap (value_at c.table.opening m) is in
    stood_at c.table m c.x c.y c.item_x.value c.item_y.value c.group_x.value c.group_y.value h.legal h.differ h.x_in h.y_in h.x_listed h.y_listed
    (at c.item_x (1 + c.x) h.item_x_is held.0) (at c.item_y (1 + c.y) h.item_y_is held.1) (at c.group_x _ h.group_x_is held.2)
    (at c.group_y _ h.group_y_is held.3) less

-- where the pair of x is not less, y stood first
pub stood_after : (c : Collected) → IsCollect c → AllHeld c → (PairLess c → ⊥) → StandsBefore c.y c.x (list_after c.table c.group_y.prefix)
stood_after c h held not_less =
    let m = c.group_y.prefix in
    let at = λ (l : Loaded) (w : ℕ) (is : l.word ≡ w) (v : l.value ≡ value_at c.table.opening m l.word). v ∙ ap (value_at c.table.opening m) is in
    let ix = at c.item_x (1 + c.x) h.item_x_is held.0 in
    let iy = at c.item_y (1 + c.y) h.item_y_is held.1 in
    let gx = at c.group_x (c.table.shape.items + group_in c.item_x) h.group_x_is held.2 in
    let gy = at c.group_y (c.table.shape.items + group_in c.item_y) h.group_y_is held.3 in
    let a = labels c.table.shape.items (words_after c.table.opening m) in
    let o = ordered_after c.table m h.legal in
    let x-here = found_in c.table m c.x c.item_x.value h.legal h.x_in ix h.x_listed in
    let y-here = found_in c.table m c.y c.item_y.value h.legal h.y_in iy h.y_listed in
    let group-x : a.group c.x ≡ group_in c.item_x = ap (λ v. (item_of v).group) (sym ix) in
    let group-y : a.group c.y ≡ group_in c.item_y = ap (λ v. (item_of v).group) (sym iy) in
    let bottom-x : a.bottom c.x ≡ (item_of c.item_x.value).bottom = ap (λ v. (item_of v).bottom) (sym ix) in
    let bottom-y : a.bottom c.y ≡ (item_of c.item_y.value).bottom = ap (λ v. (item_of v).bottom) (sym iy) in
    let top-x : a.top (a.group c.x) ≡ (group_of c.group_x.value).top = ap a.top group-x ∙ ap (λ v. (group_of v).top) (sym gx) in
    let top-y : a.top (a.group c.y) ≡ (group_of c.group_y.value).top = ap a.top group-y ∙ ap (λ v. (group_of v).top) (sym gy) in
    let less : PairBelow a c.y c.x = elim (one-less a c.x c.y (list_after c.table m) o.pairs x-here.0 y-here.0 h.differ) [
      | inl below ↦
          absurd
          (not_less
          (elim below [
            | inl lt ↦ inl (omega (arith, lt, top-x, top-y))
            | inr e ↦ inr (sym top-x ∙ (e.0 ∙ top-y), omega (arith, e.1, bottom-x, bottom-y))
          ]))
      | inr above ↦ above
    ] in
    record {
      first = y-here.0;
      second = x-here.0;
      before =
          stands-first a c.y c.x (list_after c.table m) o.pairs (list-stands c.table.shape c.table.opening m h.legal).listed.distinct y-here.0
          x-here.0 (λ e. h.differ (sym e)) less;
    }
