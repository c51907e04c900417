-- A split: the new group's label, and the moves of the upper members.
use Rattle.std.proofs.Common.{◌≡◌, ◌≢◌, ℕ, ◌+◌, ◌/◌, ◌^◌, ◌<◌, ◌≤◌, true, List, [], ◌∷◌, ◌++◌, length, get_or, set, take, drop, map, refl, sym, ◌∙◌}
use Rattle.std.proofs.Common.{ap, subst, ◌⊎◌, inl, inr, arith}
use Rattle.std.proofs.lemmas.Bool.{cases_eq, cases_lt, true≢false, false≢true}
use Rattle.std.proofs.lemmas.List.{length-set, append_assoc, take_more, drop_more, take-append-drop, take_all, drop_all, get_or-set_same}
use Rattle.std.proofs.lemmas.List.{get_or-set_other, length_push}
use Rattle.kc_words.specs.ItemWord.{item_of, item_word, IsFitting as FitsItem}
use Rattle.kc_words.specs.GroupWord.{group_of, group_word, IsFitting as FitsGroup}
use Rattle.kc_words.proofs.Packing.{item_of-item_word, group_of-group_word}
use Rattle.kc_words.specs.declared.item.ItemWord.{ItemWord}
use Rattle.kc_words.specs.declared.group.GroupWord.{GroupWord}
use Rattle.kc_relabel.specs.Labels.{Ascends}
use Rattle.kc_relabel.proofs.Rising.{Ascends-rises}
use Rattle.kc_lists.specs.Lists.{member, Distinct, InOrder}
use Rattle.kc_lists.proofs.Members.{member-head, member-tail, member-cases, member-append, member-append_left, member-append_right, Distinct-cut}
use Rattle.kc_words.specs.Order.{Labels, labels}
use Rattle.kc_list.specs.Places.{Before, Placed, WordsKeepList, Segment, Free, Splitting, ItemStored, GroupStored, evens}
use Rattle.kc_list.proofs.Order.{AtFirst, AtLast, AtFirst-mono, Agrees, order-agreed, order-replaced, order-parts}
use Rattle.kc_list.proofs.WritesWord.{item_stored, group_stored}
use Rattle.kc_list.proofs.Putting.{item_agrees, Placed-agrees, ordered_from}
use Rattle.kc_list.proofs.Spreading.{Ascends-at, length-evens, evens-ascend, Distinct-parts}
use Rattle.kc_list.proofs.Spreading.{WritesKeepOrder-none, WritesKeepOrder-push, stored-append, raises_from}
use Rattle.kc_list.proofs.Spreading.{only-none, only-more, member-map}
use Rattle.kc_list.specs.Sheets.{ChangesOnly, Paper, WritesKeepOrder, version, stored, OrderedAlong, RaisedAlong}
use Rattle.kc_list.specs.Writes.{Write}
use Rattle.kc_relabel.proofs.Once.{Distinct-at}
use Rattle.kc_words.specs.declared.layout.TheConstants.{VERSION_BITS, ITEMS, BOTTOM_ROOM, TOP_ROOM}
use Rattle.kc_list.specs.declared.limits.TheConstants.{GROUP_ITEMS}
use Rattle.kc_lists.proofs.Shared.{map-agree}
use Rattle.kc_lists.proofs.Counting.{member-get_or}

-- a store to the word of a free group leaves the group and labels of each item
pub group_agrees : (n : ℕ) (ws list : List ℕ) (h v t y : ℕ) → WordsKeepList n ws list → Free n (labels n ws) list h
    → GroupStored (labels n ws) (labels n (set ws (n + h) v)) n h t → member y list ≡ true → Agrees (labels n ws) (labels n (set ws (n + h) v)) y
group_agrees n ws list h v t y s f st m =
    let below : y < n = (s.inside y m).below in
    record {
      group = st.groups y below;
      bottom = st.bottoms y below;
      top = ap (labels n (set ws (n + h) v)).top (st.groups y below) ∙ st.tops ((labels n ws).group y) (f.unused y m);
    }

-- after a store to the word of a free group the list is in order
pub unused_stored : (n : ℕ) (ws list : List ℕ) (h v t : ℕ) → WordsKeepList n ws list → Free n (labels n ws) list h
    → GroupStored (labels n ws) (labels n (set ws (n + h) v)) n h t → WordsKeepList n (set ws (n + h) v) list
unused_stored n ws list h v t s f st = record {
  size = length-set ws (n + h) v ∙ s.size;
  distinct = s.distinct;
  order = order-agreed (labels n ws) (labels n (set ws (n + h) v)) list (λ y m. group_agrees n ws list h v t y s f st m) s.order;
  inside = λ y m. Placed-agrees n (labels n ws) (labels n (set ws (n + h) v)) y (group_agrees n ws list h v t y s f st m) (s.inside y m);
  outside = λ y l o. st.groups y l ∙ s.outside y l o;
}

-- what holds of all of a list that is not empty holds of its last
AtLast-all : (P : ℕ → Type 0) (x : ℕ) (xs : List ℕ) → ((y : ℕ) → member y (x ∷ xs) ≡ true → P y) → AtLast P (x ∷ xs)
AtLast-all P x [] f = f x (member-head x [])
AtLast-all P x (y ∷ ys) f = AtLast-all P y ys (λ z m. f z (member-tail z x (y ∷ ys) m))

-- what holds of the last of a back part holds of the last of the whole
AtLast-append : (P : ℕ → Type 0) (l : List ℕ) (x : ℕ) (xs : List ℕ) → AtLast P (x ∷ xs) → AtLast P (l ++ x ∷ xs)
AtLast-append P [] x xs h = h
AtLast-append P (y ∷ []) x xs h = h
AtLast-append P (y ∷ z ∷ l) x xs h = AtLast-append P (z ∷ l) x xs h

-- three fronts, y and two backs are one list, however they are joined
fronts-regrouped : (f l t : List ℕ) (y : ℕ) (d k : List ℕ) → f ++ ((l ++ (t ++ y ∷ d)) ++ k) ≡ (f ++ (l ++ t)) ++ y ∷ (d ++ k)
fronts-regrouped f l t y d k = simp append_assoc

-- where something is left from the i-th on, i is a place within the list
more_left : (ls : List ℕ) (i : ℕ) (zs : List ℕ) (z : ℕ) → drop i ls ≡ z ∷ zs → i < length ls
more_left ls i zs z e = elim (cases_lt i (length ls)) [ inl l ↦ l | inr l ↦ absurd (let k = ap length (sym (drop_all i ls l) ∙ e) in omega (arith, k)) ]

-- where the list is cut at the member that moves
pub split_cut : (front low ups back : List ℕ) (i : ℕ) → i < length ups
    → front ++ ((low ++ ups) ++ back) ≡ (front ++ (low ++ take i ups)) ++ get_or ups i 0 ∷ (drop (i + 1) ups ++ back)
split_cut front low ups back i l =
    let parts : ups ≡ take i ups ++ get_or ups i 0 ∷ drop (i + 1) ups = sym (take-append-drop i ups) ∙ ap (λ zs. take i ups ++ zs) (drop_more ups i 0 l) in
    ap (λ zs. front ++ ((low ++ zs) ++ back)) parts ∙ fronts-regrouped front low (take i ups) (get_or ups i 0) (drop (i + 1) ups) back

-- the member that moves to the new group is before what follows it there
first_above : (a b : Labels) (h y v : ℕ) (ls zs back : List ℕ) (i : ℕ) → Ascends 1 BOTTOM_ROOM ls → map a.bottom zs ≡ drop (i + 1) ls → v ≡ get_or ls i 0
    → i < length ls → ((z : ℕ) → member z (zs ++ back) ≡ true → Agrees a b z) → ((z : ℕ) → member z zs ≡ true → a.group z ≡ h) → b.group y ≡ h
    → b.bottom y ≡ v → b.top h ≡ a.top h → AtFirst (λ z. a.top h < a.top (a.group z)) back → AtFirst (Before b y) (zs ++ back)
first_above a b h y v ls [] back i asc e v-is l f up y-g y-b t after =
    AtFirst-mono (λ z. a.top h < a.top (a.group z)) (Before b y) back (λ z m k. inr (omega (arith, ap b.top y-g, t, (f z m).top, k))) after
first_above a b h y v ls (z ∷ zs) back i asc e v-is l f up y-g y-b t after =
    let z-agrees : Agrees a b z = f z (member-head z (zs ++ back)) in
    let more : i + 1 < length ls = more_left ls (i + 1) (map a.bottom zs) (a.bottom z) (sym e) in
    let z-bottom : a.bottom z ≡ get_or ls (i + 1) 0 = ap (λ ws. get_or ws 0 0) (e ∙ drop_more ls (i + 1) 0 more) in
    let up' : get_or ls i 0 < get_or ls (i + 1) 0 = Ascends-rises 1 BOTTOM_ROOM ls asc i more in
    inl (y-g ∙ (sym (up z (member-head z zs)) ∙ sym z-agrees.group), omega (arith, y-b, v-is, z-bottom, z-agrees.bottom, up'))

-- after the last member of g that is still to move has moved to the front of h the list is in order
pub record MovedUp (n : ℕ) (ws list : List ℕ) (g h : ℕ) (low ups ls : List ℕ) (i : ℕ) (w : ItemWord) : Type 0 where
  pub below : get_or ups i 0 < n
  pub fits : FitsItem w
  pub sound : WordsKeepList n (set ws (1 + get_or ups i 0) (item_word w)) list
  pub splitting : Splitting n (labels n (set ws (1 + get_or ups i 0) (item_word w))) list g h low ups ls i

-- the last member of g that is still to move can move to the front of h
pub moved_up : (n : ℕ) (ws list : List ℕ) (g h : ℕ) (x : ℕ) (low ups ls : List ℕ) (i : ℕ) (w : ItemWord) → WordsKeepList n ws list → n ≤ ITEMS
    → Splitting n (labels n ws) list g h (x ∷ low) ups ls (i + 1) → i < length ups → length ls ≡ length ups → Ascends 1 BOTTOM_ROOM ls
    → w.version < 2 ^ VERSION_BITS → w.group ≡ h → w.bottom ≡ get_or ls i 0 → MovedUp n ws list g h (x ∷ low) ups ls i w
moved_up n ws list g h x low ups ls i w s small sp i-in ls-len asc v-fits w-g w-b =
    let a = labels n ws in
    let b = labels n (set ws (1 + get_or ups i 0) (item_word w)) in
    let cut-is : list ≡ (sp.front ++ (x ∷ low ++ take i ups)) ++ get_or ups i 0 ∷ (drop (i + 1) ups ++ sp.back) =
    sp.is ∙ split_cut sp.front (x ∷ low) ups sp.back i i-in in
    let d = Distinct-cut (get_or ups i 0) (sp.front ++ (x ∷ low ++ take i ups)) (drop (i + 1) ups ++ sp.back) (subst Distinct cut-is s.distinct) in
    let y-in : member (get_or ups i 0) list ≡ true = ap (member (get_or ups i 0)) cut-is
    ∙ member-append_right (get_or ups i 0) (sp.front ++ (x ∷ low ++ take i ups)) (get_or ups i 0 ∷ (drop (i + 1) ups ++ sp.back))
    (member-head (get_or ups i 0) (drop (i + 1) ups ++ sp.back)) in
    let y-placed : Placed n a (get_or ups i 0) = s.inside (get_or ups i 0) y-in in
    let range = Ascends-at 1 BOTTOM_ROOM ls i asc (omega arith) in
    let fits : FitsItem w = (v-fits, omega (arith, w-g, sp.h_high), omega (arith, w-b, range.1)) in
    let st : ItemStored a b n (get_or ups i 0) w.group w.bottom =
    item_stored n ws (get_or ups i 0) (item_word w) w y-placed.below s.size (item_of-item_word w fits) in
    let agrees : (z : ℕ) → member z list ≡ true → (z ≡ get_or ups i 0 → ⊥) → Agrees a b z =
    λ z m ne. item_agrees a b n (get_or ups i 0) w.group w.bottom z st ne (s.inside z m).group_low in
    let top-h : b.top h ≡ a.top h = st.tops h sp.h_low in
    let g-low : 0 < g = omega (
      arith,
      sp.lower x (member-head x (low ++ take (i + 1) ups)),
      (s.inside x (ap (member x) sp.is
          ∙ member-append_right x sp.front ((x ∷ low ++ ups) ++ sp.back) (member-head x ((low ++ ups) ++ sp.back)))).group_low,
    ) in
    let top-g : b.top g ≡ a.top g = st.tops g g-low in
    let from-left : (z : ℕ) → member z (sp.front ++ (x ∷ low ++ take i ups)) ≡ true → (member z list ≡ true) × (z ≡ get_or ups i 0 → ⊥) =
    λ z m. (
      ap (member z) cut-is ∙ member-append_left z (sp.front ++ (x ∷ low ++ take i ups)) (get_or ups i 0 ∷ (drop (i + 1) ups ++ sp.back)) m,
      λ e. true≢false (sym m ∙ (ap (λ u. member u (sp.front ++ (x ∷ low ++ take i ups))) e ∙ d.0)),
    ) in
    let from-right : (z : ℕ) → member z (drop (i + 1) ups ++ sp.back) ≡ true → (member z list ≡ true) × (z ≡ get_or ups i 0 → ⊥) =
    λ z m. (
      ap (member z) cut-is ∙ member-append_right z (sp.front ++ (x ∷ low ++ take i ups)) (get_or ups i 0 ∷ (drop (i + 1) ups ++ sp.back))
          (member-tail z (get_or ups i 0) (drop (i + 1) ups ++ sp.back) m),
      λ e. true≢false (sym m ∙ (ap (λ u. member u (drop (i + 1) ups ++ sp.back)) e ∙ d.1)),
    ) in
    let lower-more : (z : ℕ) → member z (x ∷ low ++ take i ups) ≡ true → member z (x ∷ low ++ take (i + 1) ups) ≡ true =
    λ z m. elim (member-append z (x ∷ low) (take i ups) m) [
      | inl k ↦ member-append_left z (x ∷ low) (take (i + 1) ups) k
      | inr k ↦ member-append_right z (x ∷ low) (take (i + 1) ups)
          (ap (member z) (take_more ups i 0 i-in) ∙ member-append_left z (take i ups) (get_or ups i 0 ∷ []) k)
    ] in
    let lower-left : (z : ℕ) → member z (x ∷ low ++ take i ups) ≡ true → member z (sp.front ++ (x ∷ low ++ take i ups)) ≡ true =
    λ z m. member-append_right z sp.front (x ∷ low ++ take i ups) m in
    let lower' : (z : ℕ) → member z (x ∷ low ++ take i ups) ≡ true → b.group z ≡ g = λ z m. let k = from-left z (lower-left z m) in
    st.groups z k.1 ∙ sp.lower z (lower-more z m) in
    let left : AtLast (λ z. Before b z (get_or ups i 0)) (sp.front ++ (x ∷ low ++ take i ups)) =
    AtLast-append (λ z. Before b z (get_or ups i 0)) sp.front x (low ++ take i ups)
    (AtLast-all (λ z. Before b z (get_or ups i 0)) x (low ++ take i ups)
    (λ z m. inr (omega (arith, ap b.top (lower' z m), ap b.top (st.group ∙ w-g), top-g, top-h, sp.tops)))) in
    let right : AtFirst (Before b (get_or ups i 0)) (drop (i + 1) ups ++ sp.back) =
    first_above a b h (get_or ups i 0) w.bottom ls (drop (i + 1) ups) sp.back i asc sp.bottoms w-b (omega arith)
    (λ z m. let k = from-right z m in agrees z k.0 k.1) sp.upper (st.group ∙ w-g) st.bottom top-h sp.after in
    let order : InOrder (Before b) ((sp.front ++ (x ∷ low ++ take i ups)) ++ get_or ups i 0 ∷ (drop (i + 1) ups ++ sp.back)) =
    order-replaced a b (get_or ups i 0) (sp.front ++ (x ∷ low ++ take i ups)) (drop (i + 1) ups ++ sp.back)
    (λ z m. elim (member-append z (sp.front ++ (x ∷ low ++ take i ups)) (drop (i + 1) ups ++ sp.back) m)
    [ inl k ↦ (let q = from-left z k in agrees z q.0 q.1) | inr k ↦ (let q = from-right z k in agrees z q.0 q.1) ]) left right
    (subst (InOrder (Before a)) cut-is s.order) in
    let others' : (z : ℕ) → (member z sp.front ≡ true) ⊎ (member z sp.back ≡ true) → b.group z ≡ a.group z = λ z k. elim k [
      | inl m ↦ st.groups z (from-left z (member-append_left z sp.front (x ∷ low ++ take i ups) m)).1
      | inr m ↦ st.groups z (from-right z (member-append_right z (drop (i + 1) ups) sp.back m)).1
    ] in
    record {
      below = y-placed.below;
      fits = fits;
      sound = record {
        size = length-set ws (1 + get_or ups i 0) (item_word w) ∙ s.size;
        distinct = s.distinct;
        order = subst (InOrder (Before b)) (sym cut-is) order;
        inside = λ z m. elim (cases_eq z (get_or ups i 0)) [
          | inl e ↦ subst (Placed n b) (sym e) (record {
            below = y-placed.below;
            group_low = omega (arith, st.group, w-g, sp.h_low);
            group_high = omega (arith, st.group, w-g, sp.h_high);
            bottom_low = omega (arith, st.bottom, w-b, range.0);
            bottom_high = omega (arith, st.bottom, w-b, range.1);
            top_low = omega (arith, ap b.top (st.group ∙ w-g), top-h, sp.tops);
            top_high = omega (arith, ap b.top (st.group ∙ w-g), top-h, sp.top_high);
          })
          | inr ne ↦ Placed-agrees n a b z (agrees z m ne) (s.inside z m)
        ];
        outside = λ z l o. st.groups z (λ e. true≢false (sym y-in ∙ (ap (λ u. member u list) (sym e) ∙ o))) ∙ s.outside z l o;
      };
      splitting = record {
        front = sp.front;
        back = sp.back;
        is = sp.is;
        lower = lower';
        upper = λ z m. elim (member-cases z (get_or ups i 0) (drop (i + 1) ups) (ap (member z) (sym (drop_more ups i 0 i-in)) ∙ m)) [
          | inl e ↦ ap b.group e ∙ (st.group ∙ w-g)
          | inr k ↦ st.groups z (from-right z (member-append_left z (drop (i + 1) ups) sp.back k)).1 ∙ sp.upper z k
        ];
        others = λ z k. let q = sp.others z k in (λ e. q.0 (sym (others' z k) ∙ e), λ e. q.1 (sym (others' z k) ∙ e));
        h_low = sp.h_low;
        h_high = sp.h_high;
        tops = omega (arith, top-g, top-h, sp.tops);
        top_high = omega (arith, top-h, sp.top_high);
        after = AtFirst-mono (λ z. a.top h < a.top (a.group z)) (λ z. b.top h < b.top (b.group z)) sp.back
            (λ z m k. let q = from-right z (member-append_right z (drop (i + 1) ups) sp.back m) in omega (arith, top-h, (agrees z q.0 q.1).top, k)) sp.after;
        bottoms = ap (map b.bottom) (drop_more ups i 0 i-in)
            ∙ (ap (λ z. z ∷ map b.bottom (drop (i + 1) ups)) (st.bottom ∙ w-b)
            ∙ (ap (λ zs. get_or ls i 0 ∷ zs)
            (map-agree a.bottom b.bottom (drop (i + 1) ups) (λ z m. st.bottoms z (from-right z (member-append_left z (drop (i + 1) ups) sp.back m)).1)
            ∙ sp.bottoms) ∙ sym (drop_more ls i 0 (omega arith))));
      };
    }

-- after a member moves up by the word as the program stores it, which is read again
pub record MoveFacts (n : ℕ) (ws list : List ℕ) (g h : ℕ) (low ups ls : List ℕ) (i : ℕ) (w : ItemWord) : Type 0 where
  pub all : MovedUp n ws list g h low ups ls i w
  pub read : get_or (set ws (1 + get_or ups i 0) (item_word w)) (1 + get_or ups i 0) 0 ≡ item_word w
  pub again : item_of (get_or (set ws (1 + get_or ups i 0) (item_word w)) (1 + get_or ups i 0) 0) ≡ w

-- the word that the program stores as a member moves up keeps the list in order
pub move_facts : (n : ℕ) (ws list : List ℕ) (g h : ℕ) (low ups : List ℕ) (i : ℕ) (w : ItemWord) → WordsKeepList n ws list → n ≤ ITEMS → 0 < length low
    → length ups ≤ GROUP_ITEMS → Splitting n (labels n ws) list g h low ups (evens (length ups) (BOTTOM_ROOM / (length ups + 1)) 0) (i + 1) → i < length ups
    → w.version < 2 ^ VERSION_BITS → w.group ≡ h → w.bottom ≡ get_or (evens (length ups) (BOTTOM_ROOM / (length ups + 1)) 0) i 0
    → MoveFacts n ws list g h low ups (evens (length ups) (BOTTOM_ROOM / (length ups + 1)) 0) i w
move_facts n ws list g h [] ups i w s small some le sp i-in v-fits w-g w-b = absurd (omega arith)
move_facts n ws list g h (x ∷ low) ups i w s small some le sp i-in v-fits w-g w-b =
    let all = moved_up n ws list g h x low ups (evens (length ups) (BOTTOM_ROOM / (length ups + 1)) 0) i w s small sp i-in
    (length-evens (length ups) (BOTTOM_ROOM / (length ups + 1)) 0) (evens-ascend (length ups) le) v-fits w-g w-b in
    let read : get_or (set ws (1 + get_or ups i 0) (item_word w)) (1 + get_or ups i 0) 0 ≡ item_word w =
    get_or-set_same ws (1 + get_or ups i 0) (item_word w) 0 (omega (arith, s.size, all.below)) in
    record { all = all; read = read; again = ap item_of read ∙ item_of-item_word w all.fits }

-- an upper member is an item's number
pub upper_below : (n : ℕ) (ws list : List ℕ) (g h : ℕ) (low ups ls : List ℕ) (i j : ℕ) → WordsKeepList n ws list
    → Splitting n (labels n ws) list g h low ups ls j
    → i < length ups → get_or ups i 0 < n
upper_below n ws list g h low ups ls i j s sp l =
    (s.inside (get_or ups i 0) (ap (member (get_or ups i 0)) sp.is
    ∙ member-append_right (get_or ups i 0) sp.front ((low ++ ups) ++ sp.back)
    (member-append_left (get_or ups i 0) (low ++ ups) sp.back (member-append_right (get_or ups i 0) low ups (member-get_or ups i 0 l))))).below

-- after the members from the i-th on have moved
pub record Halfway (n : ℕ) (list : List ℕ) (p q : Paper) (g h : ℕ) (low ups ls : List ℕ) (i : ℕ) : Type 0 where
  pub within : i ≤ length ups
  pub sound : WordsKeepList n q.words list
  pub splitting : Splitting n (labels n q.words) list g h low ups ls i
  pub steps : WritesKeepOrder n list p q
  pub versions : (w : ℕ) → version q.words w ≤ version p.words w + 1
  pub only : ChangesOnly (map (λ y. 1 + y) ups) p.words q.words
  pub waiting : (k : ℕ) → k < i → version q.words (1 + get_or ups k 0) ≡ version p.words (1 + get_or ups k 0)
  pub groups : (w : ℕ) → n < w → get_or q.words w 0 ≡ get_or p.words w 0
  pub length_is : length q.writes + i ≡ length p.writes + length ups
  pub room : q.room ≡ p.room

-- at first no upper member has moved
pub halfway-none : (n : ℕ) (list : List ℕ) (p : Paper) (g h : ℕ) (low ups ls : List ℕ) → WordsKeepList n p.words list
    → Splitting n (labels n p.words) list g h low ups ls (length ups) → Halfway n list p p g h low ups ls (length ups)
halfway-none n list p g h low ups ls s sp = record {
  within = omega arith;
  sound = s;
  splitting = sp;
  steps = WritesKeepOrder-none n list p (ordered_from n p.words list s);
  versions = λ w. omega arith;
  only = only-none (map (λ y. 1 + y) ups) p.words;
  waiting = λ k _. refl;
  groups = λ w _. refl;
  length_is = refl;
  room = refl;
}

-- one upper member more has moved
pub halfway-more : (n : ℕ) (list : List ℕ) (p q r : Paper) (g h : ℕ) (low ups ls : List ℕ) (i j v : ℕ) → Halfway n list p q g h low ups ls j → j ≡ i + 1
    → Distinct list → WordsKeepList n r.words list → Splitting n (labels n r.words) list g h low ups ls i
    → r.words ≡ set q.words (1 + get_or ups i 0) v → r.writes ≡ q.writes ++ record { word = 1 + get_or ups i 0; value = v } ∷ []
    → version r.words (1 + get_or ups i 0) ≡ version q.words (1 + get_or ups i 0) + 1 → r.room ≡ q.room → Halfway n list p r g h low ups ls i
halfway-more n list p q r g h low ups ls i j v half e d sound splitting words writes ver room =
    let sp = half.splitting in
    let middle = Distinct-parts sp.front ((low ++ ups) ++ sp.back) (subst Distinct sp.is d) in
    let ups-distinct : Distinct ups = (Distinct-parts low ups (Distinct-parts (low ++ ups) sp.back middle.1).0).1 in
    let other : (w : ℕ) → w ≢ 1 + get_or ups i 0 → version r.words w ≡ version q.words w =
    λ w ne. ap (λ z. (item_of z).version) (ap (λ ws. get_or ws w 0) words ∙ get_or-set_other q.words (1 + get_or ups i 0) w v 0 ne) in
    let one : Write = record { word = 1 + get_or ups i 0; value = v } in
    record {
      within = omega (arith, half.within);
      sound = sound;
      splitting = splitting;
      steps = WritesKeepOrder-push n list p q r one half.steps words writes (ordered_from n r.words list sound)
          (raises_from q.words r.words (1 + get_or ups i 0) v (omega arith)
          (omega (arith, upper_below n q.words list g h low ups ls i j half.sound sp (omega (arith, half.within)), half.sound.size)) words ver);
      versions = λ w. elim (cases_eq w (1 + get_or ups i 0)) [
        | inl at ↦ subst (λ u. version r.words u ≤ version p.words u + 1) (sym at) (omega (arith, ver, half.waiting i (omega arith)))
        | inr ne ↦ omega (arith, other w ne, half.versions w)
      ];
      only = only-more (map (λ y. 1 + y) ups) p.words q.words r.words (1 + get_or ups i 0) v half.only
          (member-map (λ y. 1 + y) ups (get_or ups i 0) (member-get_or ups i 0 (omega (arith, half.within)))) words;
      waiting = λ k k-i. other (1 + get_or ups k 0) (λ same. Distinct-at ups k i ups-distinct k-i (omega (arith, half.within)) (omega arith))
          ∙ half.waiting k (omega arith);
      groups = λ w n-w.
          let y-n : get_or ups i 0 < n = upper_below n r.words list g h low ups ls i i sound splitting (omega (arith, half.within)) in
          ap (λ ws. get_or ws w 0) words
          ∙ (get_or-set_other q.words (1 + get_or ups i 0) w v 0 (λ same. let z : w ≡ 1 + get_or ups i 0 = same in omega arith) ∙ half.groups w n-w);
      length_is = let n' = ap length writes in omega (arith, n', length_push q.writes one, half.length_is);
      room = room ∙ half.room;
    }

-- a word has the same version, whether it is read as an item's or as a group's
pub same_version : (z : ℕ) → (item_of z).version ≡ (group_of z).version
unfolding item_of group_of
same_version z = refl

-- what holds of the last of a list that is not empty holds of a member
AtLast-some : (P : ℕ → Type 0) (x : ℕ) (xs : List ℕ) → AtLast P (x ∷ xs) → (y : ℕ) × (member y (x ∷ xs) ≡ true) × P y
AtLast-some P x [] h = (x, member-head x [], h)
AtLast-some P x (y ∷ ys) h = let k = AtLast-some P y ys h in (k.0, member-tail k.0 x (y ∷ ys) k.1, k.2)

-- what follows a group has a greater top label
pub after_segment : (n : ℕ) (ws list : List ℕ) (g x : ℕ) (m : List ℕ) → WordsKeepList n ws list → (seg : Segment (labels n ws) list g (x ∷ m))
    → AtFirst (λ z. (labels n ws).top g < (labels n ws).top ((labels n ws).group z)) seg.back
after_segment n ws list g x m s seg =
    let a = labels n ws in
    let p = order-parts (Before a) seg.front (x ∷ m ++ seg.back) (subst (InOrder (Before a)) seg.is s.order) in
    let q = order-parts (Before a) (x ∷ m) seg.back p.right in
    let last = AtLast-some (λ y. AtFirst (Before a y) seg.back) x m q.seam in
    let last-g : a.group last.0 ≡ g = seg.members last.0 last.1 in
    AtFirst-mono (Before a last.0) (λ z. a.top g < a.top (a.group z)) seg.back
    (λ z k h. elim h [ inl e ↦ absurd (seg.others z (inr k) (sym e.0 ∙ last-g)) | inr t ↦ omega (arith, ap a.top last-g, t) ]) last.2

-- after the store of the new group's label the list is in order, and all upper members are still to move
pub record TopFacts (n : ℕ) (ws list : List ℕ) (g h : ℕ) (low ups ls : List ℕ) (w : GroupWord) : Type 0 where
  pub fits : FitsGroup w
  pub sound : WordsKeepList n (set ws (n + h) (group_word w)) list
  pub splitting : Splitting n (labels n (set ws (n + h) (group_word w))) list g h low ups ls (length ups)
  pub read : get_or (set ws (n + h) (group_word w)) (n + h) 0 ≡ group_word w
  pub again : (item_of (get_or (set ws (n + h) (group_word w)) (n + h) 0)).version ≡ w.version

-- a label for the new group above g and below all later groups can be stored
pub top_facts : (n : ℕ) (ws list : List ℕ) (g h : ℕ) (low ups : List ℕ) (w : GroupWord) → WordsKeepList n ws list → 0 < length low
    → Segment (labels n ws) list g (low ++ ups) → Free n (labels n ws) list h → (labels n ws).top g < w.top → w.top < TOP_ROOM
    → ((z : ℕ) → member z list ≡ true → (labels n ws).top g < (labels n ws).top ((labels n ws).group z) → w.top < (labels n ws).top ((labels n ws).group z))
    → w.version < 2 ^ VERSION_BITS → TopFacts n ws list g h low ups (evens (length ups) (BOTTOM_ROOM / (length ups + 1)) 0) w
top_facts n ws list g h [] ups w s some seg f above high gap v-fits = absurd (omega arith)
top_facts n ws list g h (x ∷ low) ups w s some seg f above high gap v-fits =
    let a = labels n ws in
    let b = labels n (set ws (n + h) (group_word w)) in
    let fits : FitsGroup w = (v-fits, omega arith) in
    let st : GroupStored a b n h w.top = group_stored n ws h (group_word w) w f.low f.high s.size (group_of-group_word w fits) in
    let sound = unused_stored n ws list h (group_word w) w.top s f st in
    let m-in : (y : ℕ) → member y (x ∷ low ++ ups) ≡ true → member y list ≡ true = λ y k. ap (member y) seg.is
    ∙ member-append_right y seg.front (x ∷ low ++ ups ++ seg.back) (member-append_left y (x ∷ low ++ ups) seg.back k) in
    let below : (y : ℕ) → member y list ≡ true → y < n = λ y k. (s.inside y k).below in
    let f-in : (y : ℕ) → (member y seg.front ≡ true) ⊎ (member y seg.back ≡ true) → member y list ≡ true = λ y k. elim k [
      | inl p ↦ ap (member y) seg.is ∙ member-append_left y seg.front (x ∷ low ++ ups ++ seg.back) p
      | inr p ↦ ap (member y) seg.is ∙ member-append_right y seg.front (x ∷ low ++ ups ++ seg.back) (member-append_right y (x ∷ low ++ ups) seg.back p)
    ] in
    let g-h : g ≡ h → ⊥ = λ e. f.unused x (m-in x (member-head x (low ++ ups))) (seg.members x (member-head x (low ++ ups)) ∙ e) in
    let top-g : b.top g ≡ a.top g = st.tops g g-h in
    let read : get_or (set ws (n + h) (group_word w)) (n + h) 0 ≡ group_word w = get_or-set_same ws (n + h) (group_word w) 0 (omega (arith, s.size, f.high)) in
    record {
      fits = fits;
      sound = sound;
      splitting = record {
        front = seg.front;
        back = seg.back;
        is = seg.is;
        lower = λ y k. let k' : member y (x ∷ low ++ ups) ≡ true = ap (λ zs. member y (x ∷ low ++ zs)) (sym (take_all (length ups) ups (omega arith))) ∙ k in
            st.groups y (below y (m-in y k')) ∙ seg.members y k';
        upper = λ y k. absurd (false≢true (ap (member y) (sym (drop_all (length ups) ups (omega arith))) ∙ k));
        others = λ y k. let same = st.groups y (below y (f-in y k)) in (λ e. seg.others y k (sym same ∙ e), λ e. f.unused y (f-in y k) (sym same ∙ e));
        h_low = f.low;
        h_high = f.high;
        tops = omega (arith, top-g, st.top, above);
        top_high = omega (arith, st.top, high);
        after = AtFirst-mono (λ z. a.top g < a.top (a.group z)) (λ z. b.top h < b.top (b.group z)) seg.back
            (λ z k t. let z-in = f-in z (inr k) in omega (arith, st.top, (group_agrees n ws list h (group_word w) w.top z s f st z-in).top, gap z z-in t))
            (after_segment n ws list g x (low ++ ups) s seg);
        bottoms = ap (map b.bottom) (drop_all (length ups) ups (omega arith))
            ∙ sym (drop_all (length ups) (evens (length ups) (BOTTOM_ROOM / (length ups + 1)) 0)
            (omega (arith, length-evens (length ups) (BOTTOM_ROOM / (length ups + 1)) 0)));
      };
      read = read;
      again = same_version (get_or (set ws (n + h) (group_word w)) (n + h) 0) ∙ ap (λ z. z.version) (ap group_of read ∙ group_of-group_word w fits);
    }

-- once all upper members have moved, the lower ones are all members of the old group
pub lower_segment : (n : ℕ) (a : Labels) (list : List ℕ) (g h : ℕ) (low ups ls : List ℕ) → Splitting n a list g h low ups ls 0 → Segment a list g low
lower_segment n a list g h low ups ls sp = record {
  front = sp.front;
  back = ups ++ sp.back;
  is = sp.is ∙ ap (λ zs. sp.front ++ zs) (append_assoc low ups sp.back);
  members = λ y k. sp.lower y (member-append_left y low [] k);
  others = λ y k e. elim k [
    | inl p ↦ (sp.others y (inl p)).0 e
    | inr p ↦ elim (member-append y ups sp.back p) [
      | inl q ↦ (let same : g ≡ h = sym e ∙ sp.upper y q in let t = sp.tops in let u = ap a.top same in absurd (omega (arith, u, t)))
      | inr q ↦ (sp.others y (inr q)).0 e
    ]
  ];
}

-- once all upper members have moved, they are all members of the new group
pub upper_segment : (n : ℕ) (a : Labels) (list : List ℕ) (g h : ℕ) (low ups ls : List ℕ) → Splitting n a list g h low ups ls 0 → Segment a list h ups
upper_segment n a list g h low ups ls sp = record {
  front = sp.front ++ low;
  back = sp.back;
  is = sp.is ∙ (ap (λ zs. sp.front ++ zs) (append_assoc low ups sp.back) ∙ sym (append_assoc sp.front low (ups ++ sp.back)));
  members = λ y k. sp.upper y k;
  others = λ y k e. elim k [
    | inl p ↦ elim (member-append y sp.front low p) [
      | inl q ↦ (sp.others y (inl q)).1 e
      | inr q ↦ (let same : g ≡ h = sym (sp.lower y (member-append_left y low [] q)) ∙ e in let t = sp.tops in let u = ap a.top same in
          absurd (omega (arith, u, t)))
    ]
    | inr p ↦ (sp.others y (inr p)).1 e
  ];
}

-- a list in order along writes, and along others from there on, is so along both
pub OrderedAlong-append : (n : ℕ) (list ws : List ℕ) (ss ts : List Write) → OrderedAlong n list ws ss → OrderedAlong n list (stored ws ss) ts
    → OrderedAlong n list ws (ss ++ ts)
OrderedAlong-append n list ws [] ts h k = k
OrderedAlong-append n list ws (s ∷ ss) ts h k = (h.0, OrderedAlong-append n list (set ws s.word s.value) ss ts h.1 k)

-- where writes raise versions by one, and others from there on, both do
pub RaisedAlong-append : (ws : List ℕ) (ss ts : List Write) → RaisedAlong ws ss → RaisedAlong (stored ws ss) ts → RaisedAlong ws (ss ++ ts)
RaisedAlong-append ws [] ts h k = k
RaisedAlong-append ws (s ∷ ss) ts h k = (h.0, RaisedAlong-append (set ws s.word s.value) ss ts h.1 k)

-- steps from one sheet to a second and from there to a third are steps from the first to the third
pub WritesKeepOrder-then : (n : ℕ) (list : List ℕ) (p q r : Paper) → WritesKeepOrder n list p q → WritesKeepOrder n list q r → WritesKeepOrder n list p r
WritesKeepOrder-then n list p q r h k = record {
  added = h.added ++ k.added;
  writes = k.writes ∙ (ap (λ ss. ss ++ k.added) h.writes ∙ append_assoc p.writes h.added k.added);
  words = k.words ∙ (ap (λ ws. stored ws k.added) h.words ∙ sym (stored-append p.words h.added k.added));
  along = OrderedAlong-append n list p.words h.added k.added h.along (subst (λ ws. OrderedAlong n list ws k.added) h.words k.along);
  raised = RaisedAlong-append p.words h.added k.added h.raised (subst (λ ws. RaisedAlong ws k.added) h.words k.raised);
}

-- a store to a group's word and later stores to items' words raise no version by more than one
pub versions-then : (n h : ℕ) (ws vs us : List ℕ) (v : ℕ) → 0 < h → vs ≡ set ws (n + h) v → version vs (n + h) ≡ version ws (n + h) + 1
    → ((w : ℕ) → n < w → get_or us w 0 ≡ get_or vs w 0) → ((w : ℕ) → version us w ≤ version vs w + 1) → (w : ℕ) → version us w ≤ version ws w + 1
versions-then n h ws vs us v low words ver same le w = elim (cases_eq w (n + h)) [
  | inl e ↦ subst (λ u. version us u ≤ version ws u + 1) (sym e) (omega (arith, ver, ap (λ z. (item_of z).version) (same (n + h) (omega arith))))
  | inr ne ↦ omega (arith, le w, ap (λ z. (item_of z).version) (ap (λ xs. get_or xs w 0) words ∙ get_or-set_other ws (n + h) w v 0 ne))
]

-- a store to a group's word leaves the versions of items' words
pub version_kept : (n h y v : ℕ) (ws vs : List ℕ) → 0 < h → y < n → vs ≡ set ws (n + h) v → version vs (1 + y) ≡ version ws (1 + y)
version_kept n h y v ws vs low l words = let ne : 1 + y ≢ n + h = omega arith in
    ap (λ z. (item_of z).version) (ap (λ xs. get_or xs (1 + y) 0) words ∙ get_or-set_other ws (n + h) (1 + y) v 0 ne)
