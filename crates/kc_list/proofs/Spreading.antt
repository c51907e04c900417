-- New bottom labels of a group, store by store.
use Rattle.std.proofs.Common.{◌≡◌, ◌≢◌, ℕ, suc, zero, ◌+◌, ◌*◌, ◌/◌, ◌^◌, ◌<◌, ◌≤◌, true, List, [], ◌∷◌, ◌++◌, length, get_or, set, take, map, refl}
use Rattle.std.proofs.Common.{sym, ◌∙◌, ap, subst, inl, inr, arith}
use Rattle.std.proofs.lemmas.Bool.{cases_eq, cases_lt, true≢false, false≢true}
use Rattle.std.proofs.lemmas.List.{length-set, get_or-set_same, get_or-set_other, append_assoc, append-nil, length-map, take_more, length_push}
use Rattle.std.proofs.lemmas.List.{take_more_set, take_all, get_or-map}
use Rattle.kc_words.specs.ItemWord.{item_of, item_word, IsFitting as FitsItem}
use Rattle.kc_words.proofs.Packing.{item_of-item_word}
use Rattle.kc_words.specs.declared.item.ItemWord.{ItemWord}
use Rattle.kc_relabel.specs.Labels.{Ascends, written, places}
use Rattle.kc_relabel.proofs.Rising.{Writes, written-append, Ascends-end, Ascends-low}
use Rattle.std.proofs.lemmas.Nat.{le-div, div-add-mod'}
use Rattle.kc_relabel.proofs.Once.{Distinct-at, place_at, length-places}
use Rattle.kc_lists.specs.Lists.{member, Distinct, InOrder, Follows}
use Rattle.kc_lists.proofs.Members.{member-head, member-tail, member-cases, member-append_left, member-append_right, not_member-append, not_member-parts}
use Rattle.kc_words.specs.Order.{Labels, labels, Ordered}
use Rattle.kc_list.specs.Places.{Before, Placed, WordsKeepList, Segment, ItemStored, evens}
use Rattle.kc_list.specs.Sheets.{ChangesOnly, Paper, stored, OrderedAlong, RaisedAlong, Raises, WritesKeepOrder, version}
use Rattle.kc_list.specs.Writes.{Write}
use Rattle.kc_list.proofs.Order.{AtFirst, AtFirst-mono, AtLast-mono, Agrees, order-parts, order-joined, Before-agrees}
use Rattle.kc_list.proofs.WritesWord.{item_stored}
use Rattle.kc_list.proofs.Putting.{item_agrees, Placed-agrees, ordered_from}
use Rattle.kc_words.specs.declared.layout.TheConstants.{VERSION_BITS, LAST_VERSION, ITEMS, BOTTOM_ROOM}
use Rattle.kc_list.specs.declared.limits.TheConstants.{GROUP_ITEMS}
use Rattle.kc_words.proofs.Ordering.{InOrder-mono}
use Rattle.kc_lists.proofs.Shared.{map-agree}
use Rattle.kc_lists.proofs.Counting.{member-get_or}

-- a list in order is so by another relation where this orders its middle and agrees on the rest
pub order-middle : (R S : ℕ → ℕ → Type 0) (l m r : List ℕ) → ((x z : ℕ) → member x l ≡ true → member z (l ++ (m ++ r)) ≡ true → R x z → S x z)
    → ((x z : ℕ) → member x m ≡ true → member z r ≡ true → R x z → S x z) → ((x z : ℕ) → member x r ≡ true → member z r ≡ true → R x z → S x z) → InOrder S m
    → InOrder R (l ++ (m ++ r)) → InOrder S (l ++ (m ++ r))
order-middle R S l m r f g k new h =
    let p = order-parts R l (m ++ r) h in
    let q = order-parts R m r p.right in
    order-joined S l (m ++ r) (record {
      left = InOrder-mono R S l (λ x z x-in z-in w. f x z x-in (member-append_left z l (m ++ r) z-in) w) p.left;
      right = order-joined S m r (record {
        left = new;
        right = InOrder-mono R S r k q.right;
        seam = AtLast-mono (λ x. AtFirst (R x) r) (λ x. AtFirst (S x) r) m (λ x x-in w. AtFirst-mono (R x) (S x) r (λ z z-in u. g x z x-in z-in u) w) q.seam;
      });
      seam = AtLast-mono (λ x. AtFirst (R x) (m ++ r)) (λ x. AtFirst (S x) (m ++ r)) l
          (λ x x-in w. AtFirst-mono (R x) (S x) (m ++ r) (λ z z-in u. f x z x-in (member-append_right z l (m ++ r) z-in) u) w) p.seam;
    })

-- members of one group follow one another where their labels ascend
Follows-ascends : (a : Labels) (g end x : ℕ) (m : List ℕ) → a.group x ≡ g → ((y : ℕ) → member y m ≡ true → a.group y ≡ g)
    → Ascends (suc (a.bottom x)) end (map a.bottom m) → Follows (Before a) x m
Follows-ascends a g end x [] e f h = tt
Follows-ascends a g end x (y ∷ m) e f h =
    let y-g : a.group y ≡ g = f y (member-head y m) in
    (inl (e ∙ sym y-g, h.0), Follows-ascends a g end y m y-g (λ z k. f z (member-tail z y m k)) h.1)

-- members of one group are in order where their labels ascend
pub order_from_ascends : (a : Labels) (g low end : ℕ) (m : List ℕ) → ((y : ℕ) → member y m ≡ true → a.group y ≡ g) → Ascends low end (map a.bottom m)
    → InOrder (Before a) m
order_from_ascends a g low end [] f h = tt
order_from_ascends a g low end (x ∷ m) f h = Follows-ascends a g end x m (f x (member-head x m)) (λ y k. f y (member-tail y x m k)) h.1

-- each of some labels that ascend is within the bounds
pub Ascends-at : (low end : ℕ) (xs : List ℕ) (i : ℕ) → Ascends low end xs → i < length xs → (low ≤ get_or xs i 0) × (get_or xs i 0 < end)
Ascends-at low end [] i h l = absurd (omega arith)
Ascends-at low end (x ∷ xs) zero h l = (h.0, Ascends-end (suc x) end xs h.1)
Ascends-at low end (x ∷ xs) (suc i) h l = let k = Ascends-at (suc x) end xs i h.1 (omega arith) in (omega (arith, h.0, k.0), k.1)

-- where one member alone gets a new label, the labels of the members change at its place alone
pub map_stored : (f g : ℕ → ℕ) (m : List ℕ) (i v : ℕ) → Distinct m → i < length m → g (get_or m i 0) ≡ v → ((y : ℕ) → (y ≡ get_or m i 0 → ⊥) → g y ≡ f y)
    → map g m ≡ set (map f m) i v
map_stored f g [] i v d l e h = absurd (omega arith)
map_stored f g (x ∷ m) zero v d l e h = ap (λ z. z ∷ map g m) e
    ∙ ap (λ zs. v ∷ zs) (map-agree f g m (λ y k. h y (λ w. true≢false (sym k ∙ (ap (λ u. member u m) w ∙ d.0)))))
map_stored f g (x ∷ m) (suc i) v d l e h =
    let x-other : x ≡ get_or m i 0 → ⊥ = λ w. true≢false (sym (member-get_or m i 0 (omega arith)) ∙ (ap (λ u. member u m) (sym w) ∙ d.0)) in
    ap (λ z. z ∷ map g m) (h x x-other) ∙ ap (λ zs. f x ∷ zs) (map_stored f g m i v d.1 (omega arith) e h)

-- two parts of a distinct list are distinct, and have no member in common
pub Distinct-parts : (l r : List ℕ) → Distinct (l ++ r) → Distinct l × Distinct r × ((y : ℕ) → member y l ≡ true → member y r ≡ true → ⊥)
Distinct-parts [] r d = (tt, d, λ y m _. false≢true m)
Distinct-parts (x ∷ l) r d =
    let p = Distinct-parts l r d.1 in
    let q = not_member-append x l r d.0 in
    ((q.0, p.0), p.1, λ y m k. elim (member-cases y x l m) [ inl e ↦ true≢false (sym k ∙ (ap (λ u. member u r) e ∙ q.1)) | inr m' ↦ p.2 y m' k ])

-- a new label with which labels ascend is within the room of a group
set_range : (xs : List ℕ) (i v : ℕ) → Ascends 1 BOTTOM_ROOM (set xs i v) → i < length xs → (1 ≤ v) × (v < BOTTOM_ROOM)
set_range xs i v h l = let k = Ascends-at 1 BOTTOM_ROOM (set xs i v) i h (omega (arith, length-set xs i v)) in let e = get_or-set_same xs i v 0 l in
    (omega (arith, k.0, e), omega (arith, k.1, e))

-- after one store of a spread the list is in order, the members stay, and one has its new label
pub record Relabelled (n : ℕ) (ws list : List ℕ) (g : ℕ) (m : List ℕ) (i : ℕ) (w : ItemWord) : Type 0 where
  pub fits : FitsItem w
  pub sound : WordsKeepList n (set ws (1 + get_or m i 0) (item_word w)) list
  pub segment : Segment (labels n (set ws (1 + get_or m i 0) (item_word w))) list g m
  pub bottoms : map (labels n (set ws (1 + get_or m i 0) (item_word w))).bottom m ≡ set (map (labels n ws).bottom m) i w.bottom

-- a member can get a new label with which the labels of its group ascend
pub member-relabelled : (n : ℕ) (ws list : List ℕ) (g : ℕ) (m : List ℕ) (i : ℕ) (w : ItemWord) → WordsKeepList n ws list → n ≤ ITEMS
    → Segment (labels n ws) list g m
    → i < length m → w.version < 2 ^ VERSION_BITS → w.group ≡ g → Ascends 1 BOTTOM_ROOM (set (map (labels n ws).bottom m) i w.bottom)
    → Relabelled n ws list g m i w
member-relabelled n ws list g m i w s small seg i-in v-fits w-g asc =
    let y = get_or m i 0 in
    let a = labels n ws in
    let b = labels n (set ws (1 + get_or m i 0) (item_word w)) in
    let y-m : member (get_or m i 0) m ≡ true = member-get_or m i 0 i-in in
    let y-in : member (get_or m i 0) list ≡ true = ap (member (get_or m i 0)) seg.is
    ∙ member-append_right (get_or m i 0) seg.front (m ++ seg.back) (member-append_left (get_or m i 0) m seg.back y-m) in
    let y-placed : Placed n (labels n ws) (get_or m i 0) = s.inside (get_or m i 0) y-in in
    let in-range : (1 ≤ w.bottom) × (w.bottom < BOTTOM_ROOM) =
    set_range (map (labels n ws).bottom m) i w.bottom asc (omega (arith, length-map m (labels n ws).bottom)) in
    let g-is : (labels n ws).group (get_or m i 0) ≡ g = seg.members (get_or m i 0) y-m in
    let fits : FitsItem w = (v-fits, omega (arith, w-g, g-is, y-placed.group_high), omega (arith, in-range.1)) in
    let st : ItemStored (labels n ws) (labels n (set ws (1 + get_or m i 0) (item_word w))) n (get_or m i 0) w.group w.bottom =
    item_stored n ws (get_or m i 0) (item_word w) w y-placed.below s.size (item_of-item_word w fits) in
    let d = Distinct-parts seg.front (m ++ seg.back) (subst Distinct seg.is s.distinct) in
    let d' = Distinct-parts m seg.back d.1 in
    let new : map b.bottom m ≡ set (map a.bottom m) i w.bottom = map_stored a.bottom b.bottom m i w.bottom d'.0 i-in st.bottom st.bottoms in
    let groups : (z : ℕ) → b.group z ≡ a.group z =
    λ z. elim (cases_eq z (get_or m i 0)) [ inl e ↦ ap b.group e ∙ (st.group ∙ (w-g ∙ (sym g-is ∙ ap a.group (sym e)))) | inr ne ↦ st.groups z ne ] in
    let tops : (z : ℕ) → member z list ≡ true → b.top (b.group z) ≡ a.top (a.group z) = λ z k. ap b.top (groups z)
    ∙ st.tops (a.group z) (s.inside z k).group_low in
    let agrees : (z : ℕ) → member z list ≡ true → (z ≡ get_or m i 0 → ⊥) → Agrees a b z =
    λ z k ne. item_agrees a b n (get_or m i 0) w.group w.bottom z st ne (s.inside z k).group_low in
    let in-list : (z : ℕ) → member z (seg.front ++ (m ++ seg.back)) ≡ true → member z list ≡ true = λ z k. ap (member z) seg.is ∙ k in
    -- two of different groups
    let apart : (x z : ℕ) → member x list ≡ true → member z list ≡ true → (a.group x ≡ a.group z → ⊥) → Before a x z → Before b x z =
    λ x z p q ne h. elim h [ inl e ↦ absurd (ne e.0) | inr t ↦ inr (omega (arith, tops x p, tops z q, t)) ] in
    let in-back : (z : ℕ) → member z seg.back ≡ true → member z list ≡ true =
    λ z k. in-list z (member-append_right z seg.front (m ++ seg.back) (member-append_right z m seg.back k)) in
    let both : (x z : ℕ) → member x list ≡ true → member z list ≡ true → (x ≡ get_or m i 0 → ⊥) → (z ≡ get_or m i 0 → ⊥) → Before a x z → Before b x z =
    λ x z p q ne ne' h. Before-agrees a b x z (agrees x p ne) (agrees z q ne') h in
    let not-front : (z : ℕ) → member z seg.front ≡ true → z ≡ get_or m i 0 → ⊥ = λ z k e. seg.others z (inl k) (ap a.group e ∙ g-is) in
    let not-back : (z : ℕ) → member z seg.back ≡ true → z ≡ get_or m i 0 → ⊥ = λ z k e. seg.others z (inr k) (ap a.group e ∙ g-is) in
    let order : InOrder (Before b) (seg.front ++ (m ++ seg.back)) = order-middle (Before a) (Before b) seg.front m seg.back
    (λ x z x-in z-in h. let x-list = in-list x (member-append_left x seg.front (m ++ seg.back) x-in) in
    elim (cases_eq (a.group z) g) [
      | inl z-g ↦ apart x z x-list (in-list z z-in) (λ e. seg.others x (inl x-in) (e ∙ z-g)) h
      | inr z-o ↦ both x z x-list (in-list z z-in) (not-front x x-in) (λ e. z-o (ap a.group e ∙ g-is)) h
    ])
    (λ x z x-in z-in h. apart x z (in-list x (member-append_right x seg.front (m ++ seg.back) (member-append_left x m seg.back x-in))) (in-back z z-in)
    (λ e. seg.others z (inr z-in) (sym e ∙ seg.members x x-in)) h)
    (λ x z x-in z-in h. both x z (in-back x x-in) (in-back z z-in) (not-back x x-in) (not-back z z-in) h)
    (order_from_ascends b g 1 BOTTOM_ROOM m (λ z k. groups z ∙ seg.members z k) (subst (Ascends 1 BOTTOM_ROOM) (sym new) asc))
    (subst (InOrder (Before a)) seg.is s.order) in
    record {
      fits = fits;
      sound = record {
        size = length-set ws (1 + get_or m i 0) (item_word w) ∙ s.size;
        distinct = s.distinct;
        order = subst (InOrder (Before b)) (sym seg.is) order;
        inside = λ z k. elim (cases_eq z (get_or m i 0)) [
          | inl e ↦ subst (Placed n b) (sym e) (record {
            below = y-placed.below;
            group_low = omega (arith, groups (get_or m i 0), y-placed.group_low);
            group_high = omega (arith, groups (get_or m i 0), y-placed.group_high);
            bottom_low = omega (arith, st.bottom, in-range.0);
            bottom_high = omega (arith, st.bottom, in-range.1);
            top_low = omega (arith, tops (get_or m i 0) y-in, y-placed.top_low);
            top_high = omega (arith, tops (get_or m i 0) y-in, y-placed.top_high);
          })
          | inr ne ↦ Placed-agrees n a b z (agrees z k ne) (s.inside z k)
        ];
        outside = λ z l o. groups z ∙ s.outside z l o;
      };
      segment = record {
        front = seg.front;
        back = seg.back;
        is = seg.is;
        members = λ z k. groups z ∙ seg.members z k;
        others =
            λ z k e. seg.others z k (sym (groups z) ∙ e);
      };
      bottoms = new;
    }

-- a list in order along writes, and after one more, is so along all of them
pub OrderedAlong-push : (n : ℕ) (list ws : List ℕ) (ss : List Write) (s : Write) → OrderedAlong n list ws ss → Ordered n (stored ws (ss ++ s ∷ [])) list
    → OrderedAlong n list ws (ss ++ s ∷ [])
OrderedAlong-push n list ws [] s h k = (h, k)
OrderedAlong-push n list ws (t ∷ ss) s h k = (h.0, OrderedAlong-push n list (set ws t.word t.value) ss s h.1 k)

-- the words after writes and then others are those after both together
pub stored-append : (ws : List ℕ) (ss ts : List Write) → stored ws (ss ++ ts) ≡ stored (stored ws ss) ts
stored-append ws [] ts = refl
stored-append ws (s ∷ ss) ts = stored-append (set ws s.word s.value) ss ts

-- no writes are steps from a sheet to itself
pub WritesKeepOrder-none : (n : ℕ) (list : List ℕ) (p : Paper) → Ordered n p.words list → WritesKeepOrder n list p p
WritesKeepOrder-none n list p o = record { added = []; writes = sym (append-nil p.writes); words = refl; along = o; raised = tt }

-- where writes raise versions by one, and one more does, all of them do
RaisedAlong-push : (ws : List ℕ) (ss : List Write) (s : Write) → RaisedAlong ws ss → Raises (stored ws ss) s → RaisedAlong ws (ss ++ s ∷ [])
RaisedAlong-push ws [] s h r = (r, tt)
RaisedAlong-push ws (t ∷ ss) s h r = (h.0, RaisedAlong-push (set ws t.word t.value) ss s h.1 r)

-- a store that raises its word's version by one is a write that does so
pub raises_from : (ws vs : List ℕ) (w v : ℕ) → 0 < w → w < length ws → vs ≡ set ws w v → version vs w ≡ version ws w + 1
    → Raises ws (record { word = w; value = v })
raises_from ws vs w v low high e ver = record {
  low = low;
  high = high;
  version_is = ap (λ z. (item_of z).version) (sym (get_or-set_same ws w v 0 high) ∙ ap (λ us. get_or us w 0) (sym e)) ∙ ver;
}

-- steps and one write more are steps
pub WritesKeepOrder-push : (n : ℕ) (list : List ℕ) (p q r : Paper) (s : Write) → WritesKeepOrder n list p q → r.words ≡ set q.words s.word s.value
    → r.writes ≡ q.writes ++ s ∷ [] → Ordered n r.words list → Raises q.words s → WritesKeepOrder n list p r
WritesKeepOrder-push n list p q r s h words writes o rise =
    let now : r.words ≡ stored p.words (h.added ++ s ∷ []) =
    words ∙ (ap (λ ws. set ws s.word s.value) h.words ∙ sym (stored-append p.words h.added (s ∷ []))) in
    record {
      added = h.added ++ s ∷ [];
      writes = writes ∙ (ap (λ ss. ss ++ s ∷ []) h.writes ∙ append_assoc p.writes h.added (s ∷ []));
      words = now;
      along = OrderedAlong-push n list p.words h.added s h.along (subst (λ ws. Ordered n ws list) now o);
      raised = RaisedAlong-push p.words h.added s h.raised (subst (λ ws. Raises ws s) h.words rise);
    }

-- where nothing is stored, no words change but those named
pub only-none : (at ws : List ℕ) → ChangesOnly at ws ws
only-none at ws = record { same = λ w _. refl }

-- a store to a word that is named, after changes to named words alone, changes named words alone
pub only-more : (at ws vs us : List ℕ) (w v : ℕ) → ChangesOnly at ws vs → member w at ≡ true → us ≡ set vs w v → ChangesOnly at ws us
only-more at ws vs us w v h m e =
    record {
      same = λ u o. ap (λ zs. get_or zs u 0) e
          ∙ (get_or-set_other vs w u v 0 (λ is. true≢false (sym m ∙ (ap (λ z. member z at) (sym is) ∙ o))) ∙ h.same u o);
    }

-- a store before changes to named words alone changes these and the stored word alone
pub only-after : (at ws vs us : List ℕ) (w v : ℕ) → vs ≡ set ws w v → ChangesOnly at vs us → ChangesOnly (w ∷ at) ws us
only-after at ws vs us w v e h =
    record { same = λ u o. let k = not_member-parts u w at o in h.same u k.1 ∙ (ap (λ zs. get_or zs u 0) e ∙ get_or-set_other ws w u v 0 k.0) }

-- what a member is mapped to is a member of the mapped list
pub member-map : (f : ℕ → ℕ) (m : List ℕ) (y : ℕ) → member y m ≡ true → member (f y) (map f m) ≡ true
member-map f [] y k = absurd (false≢true k)
member-map f (x ∷ m) y k = elim (member-cases y x m k) [
  | inl e ↦ ap (λ z. member z (f x ∷ map f m)) (ap f e) ∙ member-head (f x) (map f m)
  | inr k' ↦ member-tail (f y) (f x) (map f m) (member-map f m y k')
]

-- after one store of a spread by the word as the program stores it, which is read again
pub record RelabelFacts (n : ℕ) (ws list : List ℕ) (g : ℕ) (m : List ℕ) (i : ℕ) (w : ItemWord) : Type 0 where
  pub below : get_or m i 0 < n
  pub all : Relabelled n ws list g m i w
  pub read : get_or (set ws (1 + get_or m i 0) (item_word w)) (1 + get_or m i 0) 0 ≡ item_word w
  pub again : item_of (get_or (set ws (1 + get_or m i 0) (item_word w)) (1 + get_or m i 0) 0) ≡ w

-- a member of a group is in the list
pub segment_in : (a : Labels) (list : List ℕ) (g : ℕ) (m : List ℕ) → Segment a list g m → (y : ℕ) → member y m ≡ true → member y list ≡ true
segment_in a list g m seg y k = ap (member y) seg.is ∙ member-append_right y seg.front (m ++ seg.back) (member-append_left y m seg.back k)

-- where each item keeps its group, the members of a group stay together
pub segment-agree : (a b : Labels) (list : List ℕ) (g : ℕ) (m : List ℕ) → ((y : ℕ) → member y list ≡ true → b.group y ≡ a.group y)
    → Segment a list g m → Segment b list g m
segment-agree a b list g m same seg = record {
  front = seg.front;
  back = seg.back;
  is = seg.is;
  members = λ y k. same y (segment_in a list g m seg y k) ∙ seg.members y k;
  others = λ y k e.
      let inside : member y list ≡ true = ap (member y) seg.is ∙ elim k [
        | inl f ↦ member-append_left y seg.front (m ++ seg.back) f
        | inr r ↦ member-append_right y seg.front (m ++ seg.back) (member-append_right y m seg.back r)
      ] in
      seg.others y k (sym (same y inside) ∙ e);
}

-- a member of a group is an item's number
pub segment_below : (n : ℕ) (ws list : List ℕ) (g : ℕ) (m : List ℕ) (i : ℕ) → WordsKeepList n ws list → Segment (labels n ws) list g m → i < length m
    → get_or m i 0 < n
segment_below n ws list g m i s seg l = (s.inside (get_or m i 0) (segment_in (labels n ws) list g m seg (get_or m i 0) (member-get_or m i 0 l))).below

-- the word that the program stores as a member gets a new label keeps the list in order
pub relabel_facts : (n : ℕ) (ws list : List ℕ) (g : ℕ) (m : List ℕ) (i : ℕ) (w : ItemWord) → WordsKeepList n ws list → n ≤ ITEMS
    → Segment (labels n ws) list g m
    → i < length m → w.version < 2 ^ VERSION_BITS → w.group ≡ g → Ascends 1 BOTTOM_ROOM (set (map (labels n ws).bottom m) i w.bottom)
    → RelabelFacts n ws list g m i w
relabel_facts n ws list g m i w s small seg i-in v-fits w-g asc =
    let below : get_or m i 0 < n = segment_below n ws list g m i s seg i-in in
    let all = member-relabelled n ws list g m i w s small seg i-in v-fits w-g asc in
    let read : get_or (set ws (1 + get_or m i 0) (item_word w)) (1 + get_or m i 0) 0 ≡ item_word w =
    get_or-set_same ws (1 + get_or m i 0) (item_word w) 0 (omega (arith, s.size)) in
    record { below = below; all = all; read = read; again = ap item_of read ∙ item_of-item_word w all.fits }

-- a new label with which labels ascend fits in an item's word
pub label_fits : (a : Labels) (m : List ℕ) (i v : ℕ) → i < length m → Ascends 1 BOTTOM_ROOM (set (map a.bottom m) i v) → v < BOTTOM_ROOM
label_fits a m i v l h = (set_range (map a.bottom m) i v h (omega (arith, length-map m a.bottom))).1

-- after j steps of a schedule
pub record Midway (n : ℕ) (list : List ℕ) (p q : Paper) (g : ℕ) (m : List ℕ) (ss : Writes) (j : ℕ) : Type 0 where
  pub sound : WordsKeepList n q.words list
  pub segment : Segment (labels n q.words) list g m
  pub bottoms : map (labels n q.words).bottom m ≡ written (map (labels n p.words).bottom m) (take j ss)
  pub steps : WritesKeepOrder n list p q
  pub versions : (w : ℕ) → version q.words w ≤ version p.words w + 1
  pub only : ChangesOnly (map (λ y. 1 + y) m) p.words q.words
  pub waiting : (k : ℕ) → j ≤ k → k < length ss
      → version q.words (1 + get_or m (get_or ss k (0, 0)).0 0) ≡ version p.words (1 + get_or m (get_or ss k (0, 0)).0 0)
  pub length_is : length q.writes ≡ length p.writes + j
  pub room : q.room ≡ p.room

-- the labels after one step more are those so far with the step's label at its place
pub written-more : (xs : List ℕ) (ss : Writes) (j : ℕ) → j < length ss
    → written xs (take (j + 1) ss) ≡ set (written xs (take j ss)) (get_or ss j (0, 0)).0 (get_or ss j (0, 0)).1
written-more xs ss j l = ap (written xs) (take_more ss j (0, 0) l) ∙ written-append xs (take j ss) (get_or ss j (0, 0) ∷ [])

-- at first no step of a schedule is done
pub midway-none : (n : ℕ) (list : List ℕ) (p : Paper) (g : ℕ) (m : List ℕ) (ss : Writes) → WordsKeepList n p.words list → Segment (labels n p.words) list g m
    → Midway n list p p g m ss 0
midway-none n list p g m ss s seg = record {
  sound = s;
  segment = seg;
  bottoms = refl;
  steps = WritesKeepOrder-none n list p (ordered_from n p.words list s);
  versions = λ w. omega arith;
  only = only-none (map (λ y. 1 + y) m) p.words;
  waiting = λ k _ _. refl;
  length_is = omega arith;
  room = refl;
}

-- the next step of a schedule names the place of a member
pub place-in : (m : List ℕ) (ss : Writes) (j : ℕ) → ((p : ℕ) → member p (places ss) ≡ true → p < length m) → j < length ss → (get_or ss j (0, 0)).0 < length m
place-in m ss j h l = h (get_or ss j (0, 0)).0
    (ap (λ z. member z (places ss)) (sym (place_at ss j)) ∙ member-get_or (places ss) j 0 (omega (arith, length-places ss)))

-- after the next step of a schedule the labels ascend
pub midway-ascends : (n : ℕ) (list : List ℕ) (p q : Paper) (g : ℕ) (m : List ℕ) (ss : Writes) (j : ℕ) → Midway n list p q g m ss j
    → ((k : ℕ) → k ≤ length ss → Ascends 1 BOTTOM_ROOM (written (map (labels n p.words).bottom m) (take k ss))) → j < length ss
    → Ascends 1 BOTTOM_ROOM (set (map (labels n q.words).bottom m) (get_or ss j (0, 0)).0 (get_or ss j (0, 0)).1)
midway-ascends n list p q g m ss j h asc l =
    subst (Ascends 1 BOTTOM_ROOM) (written-more (map (labels n p.words).bottom m) ss j l
    ∙ ap (λ xs. set xs (get_or ss j (0, 0)).0 (get_or ss j (0, 0)).1) (sym h.bottoms)) (asc (j + 1) (omega arith))

-- the word that the next step of a schedule writes has a version to spare
pub midway-version : (n : ℕ) (list : List ℕ) (p q : Paper) (g : ℕ) (m : List ℕ) (ss : Writes) (j : ℕ) → Midway n list p q g m ss j
    → ((y : ℕ) → member y m ≡ true → version p.words (1 + y) < LAST_VERSION) → (get_or ss j (0, 0)).0 < length m → j < length ss
    → version q.words (1 + get_or m (get_or ss j (0, 0)).0 0) < LAST_VERSION
midway-version n list p q g m ss j h v p-in l =
    omega (arith, h.waiting j (omega arith) l, v (get_or m (get_or ss j (0, 0)).0 0) (member-get_or m (get_or ss j (0, 0)).0 0 p-in))

-- different places of a distinct list have different members
pub two-apart : (m : List ℕ) (i j : ℕ) → Distinct m → i ≢ j → i < length m → j < length m → get_or m i 0 ≡ get_or m j 0 → ⊥
two-apart m i j d ne l k e = elim (cases_lt i j) [ inl lt ↦ Distinct-at m i j d lt k e | inr ge ↦ Distinct-at m j i d (omega arith) l (sym e) ]

-- one step more of a schedule is done
pub midway-more : (n : ℕ) (list : List ℕ) (p q r : Paper) (g : ℕ) (m : List ℕ) (ss : Writes) (j v : ℕ) → Midway n list p q g m ss j → j < length ss
    → Distinct list → Distinct (places ss) → ((p : ℕ) → member p (places ss) ≡ true → p < length m)
    → WordsKeepList n r.words list → Segment (labels n r.words) list g m
    → map (labels n r.words).bottom m ≡ set (map (labels n q.words).bottom m) (get_or ss j (0, 0)).0 (get_or ss j (0, 0)).1
    → r.words ≡ set q.words (1 + get_or m (get_or ss j (0, 0)).0 0) v
    → r.writes ≡ q.writes ++ record { word = 1 + get_or m (get_or ss j (0, 0)).0 0; value = v } ∷ []
    → version r.words (1 + get_or m (get_or ss j (0, 0)).0 0) ≡ version q.words (1 + get_or m (get_or ss j (0, 0)).0 0) + 1 → r.room ≡ q.room
    → Midway n list p r g m ss (j + 1)
midway-more n list p q r g m ss j v h l d once within sound seg bottoms words writes ver room =
    let at = (get_or ss j (0, 0)).0 in
    let word = 1 + get_or m (get_or ss j (0, 0)).0 0 in
    let m-distinct : Distinct m = (Distinct-parts m h.segment.back
    (Distinct-parts h.segment.front (m ++ h.segment.back) (subst Distinct h.segment.is d)).1).0 in
    let other : (w : ℕ) → w ≢ 1 + get_or m (get_or ss j (0, 0)).0 0 → version r.words w ≡ version q.words w =
    λ w ne. ap (λ z. (item_of z).version) (ap (λ ws. get_or ws w 0) words ∙ get_or-set_other q.words (1 + get_or m (get_or ss j (0, 0)).0 0) w v 0 ne) in
    let one : Write = record { word = 1 + get_or m (get_or ss j (0, 0)).0 0; value = v } in
    record {
      sound = sound;
      segment = seg;
      bottoms = bottoms ∙ (ap (λ xs. set xs (get_or ss j (0, 0)).0 (get_or ss j (0, 0)).1) h.bottoms
          ∙ sym (written-more (map (labels n p.words).bottom m) ss j l));
      steps = WritesKeepOrder-push n list p q r one h.steps words writes (ordered_from n r.words list sound)
          (raises_from q.words r.words (1 + get_or m (get_or ss j (0, 0)).0 0) v (omega arith)
          (omega (arith, segment_below n q.words list g m (get_or ss j (0, 0)).0 h.sound h.segment (place-in m ss j within l), h.sound.size)) words ver);
      versions = λ w. elim (cases_eq w (1 + get_or m (get_or ss j (0, 0)).0 0)) [
        | inl e ↦ subst (λ u. version r.words u ≤ version p.words u + 1) (sym e) (omega (arith, ver, h.waiting j (omega arith) l))
        | inr ne ↦ omega (arith, other w ne, h.versions w)
      ];
      only = only-more (map (λ y. 1 + y) m) p.words q.words r.words (1 + get_or m (get_or ss j (0, 0)).0 0) v h.only
          (member-map (λ y. 1 + y) m (get_or m (get_or ss j (0, 0)).0 0) (member-get_or m (get_or ss j (0, 0)).0 0 (place-in m ss j within l))) words;
      waiting = λ k j-k k-in.
          let differ : (get_or ss j (0, 0)).0 ≢ (get_or ss k (0, 0)).0 =
          λ e. Distinct-at (places ss) j k once (omega arith) (omega (arith, length-places ss)) (place_at ss j ∙ (e ∙ sym (place_at ss k))) in
          let apart : 1 + get_or m (get_or ss k (0, 0)).0 0 ≢ 1 + get_or m (get_or ss j (0, 0)).0 0 =
          λ e. two-apart m (get_or ss j (0, 0)).0 (get_or ss k (0, 0)).0 m-distinct differ (place-in m ss j within l) (place-in m ss k within k-in)
          (omega arith) in
          other (1 + get_or m (get_or ss k (0, 0)).0 0) apart ∙ h.waiting k (omega arith) k-in;
      length_is = ap length writes ∙ omega (arith, length_push q.writes one, h.length_is);
      room = room ∙ h.room;
    }

-- where members of one group follow one another, their labels ascend
Follows-bottoms : (n : ℕ) (a : Labels) (g x : ℕ) (m : List ℕ) → a.group x ≡ g → ((y : ℕ) → member y m ≡ true → (a.group y ≡ g) × (a.bottom y < BOTTOM_ROOM))
    → Follows (Before a) x m → a.bottom x < BOTTOM_ROOM → Ascends (suc (a.bottom x)) BOTTOM_ROOM (map a.bottom m)
Follows-bottoms n a g x [] e f h l = l
Follows-bottoms n a g x (y ∷ m) e f h l =
    let y-f = f y (member-head y m) in
    let up : a.bottom x < a.bottom y =
    elim h.0 [ inl s ↦ s.1 | inr t ↦ absurd (let same : a.top (a.group x) ≡ a.top (a.group y) = ap a.top (e ∙ sym y-f.0) in omega arith) ] in
    (up, Follows-bottoms n a g y m y-f.0 (λ z k. f z (member-tail z y m k)) h.1 y-f.1)

-- the labels of members of one group that are in order ascend
group_labels-ascend : (n : ℕ) (ws : List ℕ) (g : ℕ) (m : List ℕ)
    → ((y : ℕ) → member y m ≡ true → ((labels n ws).group y ≡ g) × (0 < (labels n ws).bottom y) × ((labels n ws).bottom y < BOTTOM_ROOM))
    → InOrder (Before (labels n ws)) m → Ascends 1 BOTTOM_ROOM (map (labels n ws).bottom m)
group_labels-ascend n ws g [] f h = omega arith
group_labels-ascend n ws g (x ∷ m) f h =
    let x-f = f x (member-head x m) in
    (x-f.1, Follows-bottoms n (labels n ws) g x m x-f.0 (λ y k. let q = f y (member-tail y x m k) in (q.0, q.2)) h x-f.2)

-- the labels of a group's members ascend
pub ascends_from_order : (n : ℕ) (ws list : List ℕ) (g : ℕ) (m : List ℕ) → WordsKeepList n ws list → Segment (labels n ws) list g m
    → Ascends 1 BOTTOM_ROOM (map (labels n ws).bottom m)
ascends_from_order n ws list g m s seg =
    let p = order-parts (Before (labels n ws)) seg.front (m ++ seg.back) (subst (InOrder (Before (labels n ws))) seg.is s.order) in
    let q = order-parts (Before (labels n ws)) m seg.back p.right in
    group_labels-ascend n ws g m
    (λ y k. let pl = s.inside y (segment_in (labels n ws) list g m seg y k) in (seg.members y k, pl.bottom_low, pl.bottom_high)) q.left

-- one step more is a product with one more
mul-expand : (i step : ℕ) → (i + 1) * step ≡ i * step + step
mul-expand i step = omega arith

-- equal factors have products with the same bound
same_product : (a b c end : ℕ) → a ≡ b → a * c ≤ end → b * c ≤ end
same_product a b c end e h = subst (λ z. z * c ≤ end) e h

-- labels at even distances ascend
pub Ascends-evens : (n step i end : ℕ) → 0 < step → (i + n + 1) * step ≤ end → Ascends (i * step + 1) end (evens n step i)
Ascends-evens zero step i end l h = omega (arith, mul-expand i step)
Ascends-evens (suc n) step i end l h = (
  omega (arith, mul-expand i step),
  Ascends-low (suc ((i + 1) * step)) ((i + 1) * step + 1) end (evens n step (i + 1)) (omega arith)
      (Ascends-evens n step (i + 1) end l (same_product (i + suc n + 1) (i + 1 + n + 1) step end (omega arith) h)),
)

-- there are as many labels at even distances as are asked for
pub length-evens : (n step i : ℕ) → length (evens n step i) ≡ n
length-evens zero step i = refl
length-evens (suc n) step i = ap suc (length-evens n step (i + 1))

-- the label at a place, of labels at even distances, is so many steps
pub get_or-evens : (n step i k : ℕ) → k < n → get_or (evens n step i) k 0 ≡ (i + k + 1) * step
get_or-evens zero step i k l = absurd (omega arith)
get_or-evens (suc n) step i zero l = let e : i + 1 ≡ i + 0 + 1 = omega arith in ap (λ z. z * step) e
get_or-evens (suc n) step i (suc k) l = let e : i + 1 + k + 1 ≡ i + suc k + 1 = omega arith in get_or-evens n step (i + 1) k (omega arith)
    ∙ ap (λ z. z * step) e

-- one more of the labels at even distances is written
pub evens-step : (n step i v : ℕ) (into : List ℕ) → length into ≡ n → i < n → v ≡ (i + 1) * step → take i into ≡ take i (evens n step 0)
    → take (i + 1) (set into i v) ≡ take (i + 1) (evens n step 0)
evens-step n step i v into e l is h =
    let at : get_or (evens n step 0) i 0 ≡ v = get_or-evens n step 0 i l ∙ ((let e' : 0 + i + 1 ≡ i + 1 = omega arith in ap (λ z. z * step) e') ∙ sym is) in
    take_more_set into i v (omega arith)
    ∙ (ap (λ zs. zs ++ v ∷ []) h ∙ (ap (λ z. take i (evens n step 0) ++ z ∷ []) (sym at)
    ∙ sym (take_more (evens n step 0) i 0 (omega (arith, length-evens n step 0)))))

-- once all are written, the array has the labels at even distances
pub evens-all : (n step i : ℕ) (into : List ℕ) → length into ≡ n → n ≤ i → take i into ≡ take i (evens n step 0) → into ≡ evens n step 0
evens-all n step i into e l h = sym (take_all i into (omega arith)) ∙ (h ∙ take_all i (evens n step 0) (omega (arith, length-evens n step 0)))

-- the label of one member more is read
pub bottoms-step : (f : ℕ → ℕ) (m : List ℕ) (i v : ℕ) (into : List ℕ) → length into ≡ length m → i < length m → v ≡ f (get_or m i 0)
    → take i into ≡ take i (map f m) → take (i + 1) (set into i v) ≡ take (i + 1) (map f m)
bottoms-step f m i v into e l is h =
    let at : get_or (map f m) i 0 ≡ v = get_or-map f m i 0 0 l ∙ sym is in
    take_more_set into i v (omega arith)
    ∙ (ap (λ zs. zs ++ v ∷ []) h ∙ (ap (λ z. take i (map f m) ++ z ∷ []) (sym at) ∙ sym (take_more (map f m) i 0 (omega (arith, length-map m f)))))

-- as many labels as a group may have items ascend where they share its room evenly
pub evens-ascend : (n : ℕ) → n ≤ GROUP_ITEMS → Ascends 1 BOTTOM_ROOM (evens n (BOTTOM_ROOM / (n + 1)) 0)
evens-ascend n l =
    let some : 1 ≤ BOTTOM_ROOM / (n + 1) = le-div 1 BOTTOM_ROOM (n + 1) (omega arith) (omega arith) in
    let all : (0 + n + 1) * (BOTTOM_ROOM / (n + 1)) ≤ BOTTOM_ROOM = let e = div-add-mod' BOTTOM_ROOM (n + 1) in omega (arith, e) in
    Ascends-low 1 (0 * (BOTTOM_ROOM / (n + 1)) + 1) BOTTOM_ROOM (evens n (BOTTOM_ROOM / (n + 1)) 0) (omega arith)
    (Ascends-evens n (BOTTOM_ROOM / (n + 1)) 0 BOTTOM_ROOM some all)
