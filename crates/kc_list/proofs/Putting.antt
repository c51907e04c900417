-- The store that moves an item.
use Rattle.std.proofs.Common.{◌≡◌, ℕ, ◌+◌, ◌^◌, ◌<◌, ◌≤◌, true, false, cond, not, List, [], ◌∷◌, ◌++◌, get_or, set, eqb, refl, sym, ◌∙◌, ap, subst}
use Rattle.std.proofs.Common.{inl, inr, arith}
use Rattle.std.proofs.lemmas.Bool.{ne_eqb, eqb-true, eqb-false, eq-eqb, cases_Bool, true≢false, false_from_ne_true}
use Rattle.std.proofs.lemmas.List.{length-set, get_or-set_same}
use Rattle.kc_words.specs.ItemWord.{item_of, item_word, IsFitting as FitsItem}
use Rattle.kc_words.proofs.Packing.{item_of-item_word}
use Rattle.kc_words.specs.declared.item.ItemWord.{ItemWord}
use Rattle.kc_lists.specs.Lists.{member, Distinct, without, right_after, next_of, head_or, InOrder}
use Rattle.kc_lists.proofs.Members.{member-head, member-tail, member-append_right, member-cut, Distinct-cut, right_after-cut, next_of-cut, next_of-in}
use Rattle.kc_lists.proofs.Members.{member-without, without-member, not_member-without, Distinct-without, member-right_after, right_after-member}
use Rattle.kc_lists.proofs.Members.{Distinct-right_after}
use Rattle.kc_words.specs.Order.{Labels, labels, Ordered, PairBelow}
use Rattle.kc_list.specs.Places.{Before, Placed, WordsKeepList, ItemStored, end_at, gap_end}
use Rattle.kc_list.proofs.Order.{AtFirst, Beyond, Agrees, Before-pairs, order-parts, put_right_after, without-around}
use Rattle.kc_list.proofs.WritesWord.{item_stored}
use Rattle.kc_words.specs.declared.layout.TheConstants.{VERSION_BITS, ITEMS, BOTTOM_ROOM}
use Rattle.kc_words.proofs.Ordering.{InOrder-mono}

-- words that have the list in order, as the crate says it, have it so as callers see it
pub ordered_from : (n : ℕ) (ws list : List ℕ) → WordsKeepList n ws list → Ordered n ws list
ordered_from n ws list s = record {
  pairs = InOrder-mono (Before (labels n ws)) (PairBelow (labels n ws)) list (λ x y _ _ h. Before-pairs (labels n ws) x y h) s.order;
  inside = λ x m. let p = s.inside x m in (p.group_low, p.group_high);
  outside = s.outside;
}

-- an item that was not stored keeps what it has
pub item_agrees : (a b : Labels) (n x g v y : ℕ) → ItemStored a b n x g v → (y ≡ x → ⊥) → 0 < a.group y → Agrees a b y
item_agrees a b n x g v y s ne low = record {
  group = s.groups y ne;
  bottom = s.bottoms y ne;
  top = ap b.top (s.groups y ne) ∙ s.tops (a.group y) low;
}

-- an item on which two readings agree has by both what an item of the list has
pub Placed-agrees : (n : ℕ) (a b : Labels) (x : ℕ) → Agrees a b x → Placed n a x → Placed n b x
Placed-agrees n a b x e p = record {
  below = p.below;
  group_low = omega (arith, e.group, p.group_low);
  group_high = omega (arith, e.group, p.group_high);
  bottom_low = omega (arith, e.bottom, p.bottom_low);
  bottom_high = omega (arith, e.bottom, p.bottom_high);
  top_low = omega (arith, e.top, p.top_low);
  top_high = omega (arith, e.top, p.top_high);
}

-- what follows p is beyond its gap
beyond_first : (n : ℕ) (a : Labels) (p v : ℕ) (l r : List ℕ) → ((y : ℕ) → member y (l ++ p ∷ r) ≡ true → Placed n a y) → InOrder (Before a) (l ++ p ∷ r)
    → v < end_at n a p (head_or n r) → AtFirst (Beyond a (a.group p) v) r
beyond_first n a p v l [] f h lt = tt
beyond_first n a p v l (q ∷ r) f h lt =
    let q-n : eqb q n ≡ false = ne_eqb q n (let b : q < n = (f q (member-append_right q l (p ∷ q ∷ r) (member-tail q p (q ∷ r) (member-head q r)))).below in
    omega arith) in
    let step : Before a p q = ((order-parts (Before a) l (p ∷ q ∷ r) h).right).0 in
    elim (cases_Bool (eqb (a.group q) (a.group p))) [
      | inl t ↦ inl (eqb-true (a.group q) (a.group p) t, rw (q-n, t) at lt)
      | inr f' ↦ elim step [ inl s ↦ absurd (eqb-false (a.group q) (a.group p) f' (sym s.0)) | inr t ↦ inr t ]
    ]

-- the gap after an item ends no higher than all labels in a group
pub gap_below : (n : ℕ) (a : Labels) (p q : ℕ) → ((q ≡ n → ⊥) → a.bottom q < BOTTOM_ROOM) → end_at n a p q ≤ BOTTOM_ROOM
gap_below n a p q f =
    elim (cases_Bool (eqb q n)) [
      | inl t ↦ rw t (omega arith)
      | inr t ↦ rw t (elim (eqb (a.group q) (a.group p)) as (λ b. cond b (a.bottom q) BOTTOM_ROOM ≤ BOTTOM_ROOM)
          [ true ↦ omega (arith, f (eqb-false q n t)) | false ↦ omega arith ])
    ]

-- a store to the word of x with a label of the gap after p puts x right after p, in order
pub put_sound : (n : ℕ) (ws list : List ℕ) (x p label v : ℕ) (w : ItemWord) → WordsKeepList n ws list → member p list ≡ true → x < n → (x ≡ p → ⊥)
    → (labels n ws).bottom p < label → label < gap_end n ws list p → item_of v ≡ w → w.group ≡ (labels n ws).group p → w.bottom ≡ label
    → WordsKeepList n (set ws (1 + x) v) (right_after x p (without x list))
put_sound n ws list x p label v w s p-in below ne low high is w-g w-b =
    let a = labels n ws in
    let b = labels n (set ws (1 + x) v) in
    let st : ItemStored a b n x w.group w.bottom = item_stored n ws x v w below s.size is in
    let c = member-cut p list p-in in
    let agrees : (y : ℕ) → member y (without x list) ≡ true → Agrees a b y = λ y m. let k = member-without y x list m in
    item_agrees a b n x w.group w.bottom y st k.1 (s.inside y k.0).group_low in
    let p-apart = Distinct-cut p c.front c.back (subst Distinct c.is s.distinct) in
    let next : next_of n p list ≡ head_or n c.back = ap (next_of n p) c.is ∙ next_of-cut n p c.front c.back p-apart.0 in
    let room : AtFirst (Beyond a (a.group p) label) c.back =
    beyond_first n a p label c.front c.back (λ y m. s.inside y (ap (member y) c.is ∙ m)) (subst (InOrder (Before a)) c.is s.order)
    (subst (λ q. label < end_at n a p q) next high) in
    let p-placed : Placed n a p = s.inside p p-in in
    let top-same : b.top (a.group p) ≡ a.top (a.group p) = st.tops (a.group p) p-placed.group_low in
    let moved : InOrder (Before b) (without x c.front ++ p ∷ x ∷ without x c.back) =
    put_right_after a b x p (a.group p) label c.front c.back (λ y m. agrees y (ap (λ zs. member y (without x zs)) c.is ∙ m)) ne (st.group ∙ w-g)
    (st.bottom ∙ w-b) top-same refl low room (subst (InOrder (Before a)) c.is s.order) in
    let p-front : member p (without x c.front) ≡ false =
    false_from_ne_true (member p (without x c.front)) (λ m. true≢false (sym (member-without p x c.front m).0 ∙ p-apart.0)) in
    let new : right_after x p (without x list) ≡ without x c.front ++ p ∷ x ∷ without x c.back = ap (λ zs. right_after x p (without x zs)) c.is
    ∙ (ap (right_after x p) (without-around x p c.front c.back ne) ∙ right_after-cut x p (without x c.front) (without x c.back) p-front) in
    let p-still : member p (without x list) ≡ true = without-member p x list p-in (λ e. ne (sym e)) in
    let label-high : label < BOTTOM_ROOM =
    omega (
      arith,
      high,
      gap_below n a p (next_of n p list)
          (λ out. elim (next_of-in n p list) [ inl e ↦ absurd (out e) | inr m ↦ (s.inside (next_of n p list) m).bottom_high ]),
    ) in
    record {
      size = length-set ws (1 + x) v ∙ s.size;
      distinct = Distinct-right_after x p (without x list) (Distinct-without x list s.distinct) (not_member-without x list);
      order = subst (InOrder (Before b)) (sym new) moved;
      inside = λ y m. elim (member-right_after y x p (without x list) m) [
        | inl e ↦ subst (Placed n b) (sym e) (record {
          below = below;
          group_low = omega (arith, st.group, w-g, p-placed.group_low);
          group_high = omega (arith, st.group, w-g, p-placed.group_high);
          bottom_low = omega (arith, st.bottom, w-b, low);
          bottom_high = omega (arith, st.bottom, w-b, label-high);
          top_low = omega (arith, ap b.top (st.group ∙ w-g), top-same, p-placed.top_low);
          top_high = omega (arith, ap b.top (st.group ∙ w-g), top-same, p-placed.top_high);
        })
        | inr k ↦ Placed-agrees n a b y (agrees y k) (s.inside y (member-without y x list k).0)
      ];
      outside = λ y y-n m.
          let y-x : y ≡ x → ⊥ = λ e. true≢false (sym (right_after-member y x p (without x list) p-still (inl e)) ∙ m) in
          let y-out : member y list ≡ false =
          false_from_ne_true (member y list)
          (λ k. true≢false (sym (right_after-member y x p (without x list) p-still (inr (without-member y x list k y-x))) ∙ m)) in
          st.groups y y-x ∙ s.outside y y-n y-out;
    }

-- an item is in the list exactly where it has a group
pub in_by_group : (n : ℕ) (ws list : List ℕ) (x : ℕ) → WordsKeepList n ws list → x < n → not (eqb ((labels n ws).group x) 0) ≡ member x list
in_by_group n ws list x s l =
    elim (cases_Bool (member x list)) [
      | inl m ↦ let low : 0 < (labels n ws).group x = (s.inside x m).group_low in ap not (ne_eqb ((labels n ws).group x) 0 (omega arith)) ∙ sym m
      | inr o ↦ ap not (eq-eqb ((labels n ws).group x) 0 (s.outside x l o)) ∙ sym o
    ]

-- the word that the program stores for a put fits, and has the list in order with x right after p
pub put_stored : (n : ℕ) (ws list : List ℕ) (x p label : ℕ) (w : ItemWord) → WordsKeepList n ws list → n ≤ ITEMS → member p list ≡ true → x < n → (x ≡ p → ⊥)
    → (labels n ws).bottom p < label → label < gap_end n ws list p → w.version < 2 ^ VERSION_BITS → w.group ≡ (labels n ws).group p → w.bottom ≡ label
    → FitsItem w × WordsKeepList n (set ws (1 + x) (item_word w)) (right_after x p (without x list)) × (item_of (get_or (set ws (1 + x) (item_word w))
    (1 + x) 0) ≡ w)
put_stored n ws list x p label w s small p-in below ne low high v-fits w-g w-b =
    let g-high : (labels n ws).group p ≤ n + 1 = (s.inside p p-in).group_high in
    let l-high : gap_end n ws list p ≤ BOTTOM_ROOM =
    gap_below n (labels n ws) p (next_of n p list)
    (λ out. elim (next_of-in n p list) [ inl e ↦ absurd (out e) | inr m ↦ (s.inside (next_of n p list) m).bottom_high ]) in
    let fits : FitsItem w = (v-fits, omega arith, omega arith) in (
      fits,
      put_sound n ws list x p label (item_word w) w s p-in below ne low high (item_of-item_word w fits) w-g w-b,
      ap item_of (get_or-set_same ws (1 + x) (item_word w) 0 (omega (arith, s.size))) ∙ item_of-item_word w fits,
    )
