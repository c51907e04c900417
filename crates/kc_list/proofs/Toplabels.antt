-- New top labels for all groups, store by store.
use Rattle.std.proofs.Common.{◌≡◌, ◌≢◌, ℕ, suc, ◌+◌, ◌^◌, ◌<◌, ◌≤◌, true, false, cond, List, [], ◌∷◌, ◌++◌, length, get_or, set, take, map, eqb, refl}
use Rattle.std.proofs.Common.{sym, ◌∙◌, ap, subst, inl, inr, arith}
use Rattle.std.proofs.lemmas.Bool.{eqb-true, eqb-false, cases_eq, cases_Bool, false≢true, false_from_ne_true}
use Rattle.std.proofs.lemmas.List.{length-set, length-map, get_or-set_same, get_or-set_other, length_push}
use Rattle.kc_words.specs.ItemWord.{item_of}
use Rattle.kc_words.specs.GroupWord.{group_of, group_word, IsFitting as FitsGroup}
use Rattle.kc_words.proofs.Packing.{group_of-group_word}
use Rattle.kc_words.specs.declared.group.GroupWord.{GroupWord}
use Rattle.kc_relabel.specs.Labels.{Ascends, written, places}
use Rattle.kc_relabel.proofs.Rising.{Writes}
use Rattle.kc_relabel.proofs.Once.{Distinct-at, place_at, length-places}
use Rattle.kc_list.specs.Sheets.{Paper, version}
use Rattle.kc_list.specs.Retops.{Topway}
use Rattle.kc_list.specs.Writes.{Write}
use Rattle.kc_list.proofs.Putting.{ordered_from}
use Rattle.kc_list.proofs.Splits.{same_version}
use Rattle.kc_lists.specs.Lists.{member, Distinct, InOrder}
use Rattle.kc_lists.proofs.Members.{member-head, member-tail, member-cases}
use Rattle.kc_words.specs.Order.{Labels, labels}
use Rattle.kc_list.specs.Places.{Before, WordsKeepList, GroupStored, runs}
use Rattle.kc_list.proofs.WritesWord.{group_stored}
use Rattle.kc_list.proofs.Spreading.{map_stored, Ascends-at, written-more, place-in, two-apart}
use Rattle.kc_list.proofs.Spreading.{WritesKeepOrder-none, WritesKeepOrder-push, raises_from, only-none}
use Rattle.kc_list.proofs.Spreading.{only-more, member-map}
use Rattle.kc_words.specs.declared.layout.TheConstants.{VERSION_BITS, LAST_VERSION, TOP_ROOM}
use Rattle.kc_lists.proofs.Counting.{member-get_or}

-- the groups of a list begin with that of its first
pub runs_head : (f : ℕ → ℕ) (x : ℕ) (xs : List ℕ) → (gs : List ℕ) × (runs f (x ∷ xs) ≡ f x ∷ gs)
runs_head f x [] = ([], refl)
runs_head f x (y ∷ ys) =
    let rest = runs_head f y ys in
    elim (cases_Bool (eqb (f x) (f y))) [
      | inl t ↦ (rest.0, rw t (rest.1 ∙ ap (λ g. g ∷ rest.0) (sym (eqb-true (f x) (f y) t))))
      | inr t ↦ (runs f (y ∷ ys), rw t refl)
    ]

-- the top labels of the groups ascend where the list is in order
pub tops_from_order : (a : Labels) (end low x : ℕ) (xs : List ℕ) → ((y : ℕ) → member y (x ∷ xs) ≡ true → a.top (a.group y) < end) → low ≤ a.top (a.group x)
    → InOrder (Before a) (x ∷ xs) → Ascends low end (map a.top (runs a.group (x ∷ xs)))
tops_from_order a end low x [] f l h = (l, f x (member-head x []))
tops_from_order a end low x (y ∷ ys) f l h =
    let f' : (z : ℕ) → member z (y ∷ ys) ≡ true → a.top (a.group z) < end = λ z m. f z (member-tail z x (y ∷ ys) m) in
    elim (cases_Bool (eqb (a.group x) (a.group y))) [
      | inl t ↦ let same : a.group x ≡ a.group y = eqb-true (a.group x) (a.group y) t in
          rw t (tops_from_order a end low y ys f' (omega (arith, ap a.top same, l)) h.1)
      | inr t ↦
          let up : a.top (a.group x) < a.top (a.group y) = elim h.0 [ inl s ↦ absurd (eqb-false (a.group x) (a.group y) t s.0) | inr u ↦ u ] in
          rw t (l, tops_from_order a end (suc (a.top (a.group x))) y ys f' up h.1)
    ]

-- labels of the groups that ascend, where the items keep theirs, keep the order
pub order_from_tops : (a b : Labels) (end low x : ℕ) (xs : List ℕ)
    → ((y : ℕ) → member y (x ∷ xs) ≡ true → (b.group y ≡ a.group y) × (b.bottom y ≡ a.bottom y)) → Ascends low end (map b.top (runs a.group (x ∷ xs)))
    → InOrder (Before a) (x ∷ xs) → InOrder (Before b) (x ∷ xs)
order_from_tops a b end low x [] f k h = tt
order_from_tops a b end low x (y ∷ ys) f k h =
    let fx = f x (member-head x (y ∷ ys)) in
    let fy = f y (member-tail y x (y ∷ ys) (member-head y ys)) in
    let f' = λ (z : ℕ) (m : member z (y ∷ ys) ≡ true). f z (member-tail z x (y ∷ ys) m) in
    elim (cases_Bool (eqb (a.group x) (a.group y))) [
      | inl t ↦
          let same : a.group x ≡ a.group y = eqb-true (a.group x) (a.group y) t in
          let up : a.bottom x < a.bottom y = elim h.0 [ inl s ↦ s.1 | inr u ↦ absurd (let e = ap a.top same in omega (arith, e, u)) ] in
          (inl (fx.0 ∙ (same ∙ sym fy.0), omega (arith, fx.1, fy.1, up)), order_from_tops a b end low y ys f' (rw t at k) h.1)
      | inr t ↦
          let k' : Ascends low end (b.top (a.group x) ∷ map b.top (runs a.group (y ∷ ys))) = rw t at k in
          let head = runs_head a.group y ys in
          let k2 : Ascends (suc (b.top (a.group x))) end (map b.top (a.group y ∷ head.0)) =
          subst (λ gs. Ascends (suc (b.top (a.group x))) end (map b.top gs)) head.1 k'.1 in
          (inr (omega (arith, ap b.top fx.0, ap b.top fy.0, k2.0)), order_from_tops a b end (suc (b.top (a.group x))) y ys f' k'.1 h.1)
    ]

-- a group whose label is below those of some groups is none of them
out_of_rest : (t : ℕ → ℕ) (g : ℕ) (gs : List ℕ) → ((k : ℕ) → member k gs ≡ true → suc (t g) ≤ t k) → member g gs ≡ false
out_of_rest t g gs f = false_from_ne_true (member g gs) (λ m. let k : suc (t g) ≤ t g = f g m in absurd (omega arith))

-- labels of groups that ascend have an end no lower than they begin
end_of : (t : ℕ → ℕ) (low end : ℕ) (gs : List ℕ) → Ascends low end (map t gs) → low ≤ end
end_of t low end [] h = h
end_of t low end (g ∷ gs) h = omega (arith, h.0, end_of t (suc (t g)) end gs h.1)

-- each label of groups whose labels ascend is within the bounds
pub all_range : (t : ℕ → ℕ) (low end : ℕ) (gs : List ℕ) (g : ℕ) → Ascends low end (map t gs) → member g gs ≡ true → (low ≤ t g) × (t g < end)
all_range t low end [] g h m = absurd (false≢true m)
all_range t low end (k ∷ gs) g h m = elim (member-cases g k gs m) [
  | inl e ↦ (let top = end_of t (suc (t k)) end gs h.1 in (omega (arith, ap t e, h.0), omega (arith, ap t e, top)))
  | inr m' ↦ (let r = all_range t (suc (t k)) end gs g h.1 m' in (omega (arith, r.0, h.0), r.1))
]

-- groups whose labels ascend are distinct, and no label is below the bound
Ascends-distinct : (t : ℕ → ℕ) (low end : ℕ) (gs : List ℕ) → Ascends low end (map t gs) → Distinct gs × ((g : ℕ) → member g gs ≡ true → low ≤ t g)
Ascends-distinct t low end [] h = (tt, λ g m. absurd (false≢true m))
Ascends-distinct t low end (g ∷ gs) h =
    let rest = Ascends-distinct t (suc (t g)) end gs h.1 in
    ((out_of_rest t g gs rest.1, rest.0), λ k m. elim (member-cases k g gs m) [ inl e ↦ omega (arith, ap t e, h.0) | inr m' ↦ omega (arith, rest.1 k m', h.0) ])

-- each group of the runs is that of an item
pub runs_item : (f : ℕ → ℕ) (g : ℕ) (xs : List ℕ) → member g (runs f xs) ≡ true → (y : ℕ) × (member y xs ≡ true) × (f y ≡ g)
runs_item f g [] m = absurd (false≢true m)
runs_item f g (x ∷ []) m = elim (member-cases g (f x) [] m) [ inl e ↦ (x, member-head x [], sym e) | inr k ↦ absurd (false≢true k) ]
runs_item f g (x ∷ y ∷ ys) m =
    elim (cases_Bool (eqb (f x) (f y))) [
      | inl t ↦ let k = runs_item f g (y ∷ ys) (rw t at m) in (k.0, member-tail k.0 x (y ∷ ys) k.1, k.2)
      | inr t ↦ elim (member-cases g (f x) (runs f (y ∷ ys)) (rw t at m)) [
        | inl e ↦ (x, member-head x (y ∷ ys), sym e)
        | inr m' ↦ let k = runs_item f g (y ∷ ys) m' in (k.0, member-tail k.0 x (y ∷ ys) k.1, k.2)
      ]
    ]

-- the group of an item is among the groups of the list
pub item_runs : (f : ℕ → ℕ) (y : ℕ) (xs : List ℕ) → member y xs ≡ true → member (f y) (runs f xs) ≡ true
item_runs f y [] m = absurd (false≢true m)
item_runs f y (x ∷ []) m = elim (member-cases y x [] m) [
  | inl e ↦ ap (λ z. member z (f x ∷ [])) (ap f e) ∙ member-head (f x) []
  | inr k ↦
      absurd (false≢true k)
]
item_runs f y (x ∷ z ∷ zs) m =
    let head = runs_head f x (z ∷ zs) in
    elim (member-cases y x (z ∷ zs) m) [
      | inl e ↦ ap (λ g. member g (runs f (x ∷ z ∷ zs))) (ap f e) ∙ (ap (member (f x)) head.1 ∙ member-head (f x) head.0)
      | inr k ↦
          let rest = item_runs f y (z ∷ zs) k in
          elim (cases_Bool (eqb (f x) (f z))) [ inl t ↦ rw t rest | inr t ↦ rw t (member-tail (f y) (f x) (runs f (z ∷ zs)) rest) ]
    ]

-- after one store of a spread of the groups the list is in order, and one group has its new label
pub record Retopped (n : ℕ) (ws list gs : List ℕ) (i : ℕ) (w : GroupWord) : Type 0 where
  pub fits : FitsGroup w
  pub below : get_or gs i 0 ≤ n + 1
  pub sound : WordsKeepList n (set ws (n + get_or gs i 0) (group_word w)) list
  pub same_runs : runs (labels n (set ws (n + get_or gs i 0) (group_word w))).group list ≡ gs
  pub tops : map (labels n (set ws (n + get_or gs i 0) (group_word w))).top gs ≡ set (map (labels n ws).top gs) i w.top

-- where the items keep their groups, the groups of the list stay
runs-same : (f g : ℕ → ℕ) (xs : List ℕ) → ((y : ℕ) → member y xs ≡ true → g y ≡ f y) → runs g xs ≡ runs f xs
runs-same f g [] h = refl
runs-same f g (x ∷ []) h = ap (λ z. z ∷ []) (h x (member-head x []))
runs-same f g (x ∷ y ∷ ys) h =
    let hx = h x (member-head x (y ∷ ys)) in
    let hy = h y (member-tail y x (y ∷ ys) (member-head y ys)) in
    let rest = runs-same f g (y ∷ ys) (λ z m. h z (member-tail z x (y ∷ ys) m)) in
    ap (λ u. cond (eqb u (g y)) (runs g (y ∷ ys)) (u ∷ runs g (y ∷ ys))) hx
    ∙ (ap (λ u. cond (eqb (f x) u) (runs g (y ∷ ys)) (f x ∷ runs g (y ∷ ys))) hy ∙ ap (λ rs. cond (eqb (f x) (f y)) rs (f x ∷ rs)) rest)

-- a group can get a new label with which the labels of the groups ascend
pub group-retopped : (n : ℕ) (ws list gs : List ℕ) (i : ℕ) (w : GroupWord) → WordsKeepList n ws list → gs ≡ runs (labels n ws).group list → i < length gs
    → w.version < 2 ^ VERSION_BITS → Ascends 1 TOP_ROOM (set (map (labels n ws).top gs) i w.top) → Retopped n ws list gs i w
group-retopped n ws [] gs i w s e l v-fits asc = absurd (omega (arith, ap length e))
group-retopped n ws (x ∷ xs) gs i w s e l v-fits asc =
    let a = labels n ws in
    let b = labels n (set ws (n + get_or gs i 0) (group_word w)) in
    let g-in : member (get_or gs i 0) gs ≡ true = member-get_or gs i 0 l in
    let from = runs_item a.group (get_or gs i 0) (x ∷ xs) (ap (member (get_or gs i 0)) (sym e) ∙ g-in) in
    let at = s.inside from.0 from.1 in
    let low : 0 < get_or gs i 0 = omega (arith, from.2, at.group_low) in
    let high : get_or gs i 0 ≤ n + 1 = omega (arith, from.2, at.group_high) in
    let range = Ascends-at 1 TOP_ROOM (set (map a.top gs) i w.top) i asc (omega (arith, length-set (map a.top gs) i w.top, length-map gs a.top)) in
    let read = get_or-set_same (map a.top gs) i w.top 0 (omega (arith, length-map gs a.top)) in
    let fits : FitsGroup w = (v-fits, omega (arith, range.1, read)) in
    let st : GroupStored a b n (get_or gs i 0) w.top = group_stored n ws (get_or gs i 0) (group_word w) w low high s.size (group_of-group_word w fits) in
    let old : Ascends 1 TOP_ROOM (map a.top gs) =
    subst (λ hs. Ascends 1 TOP_ROOM (map a.top hs)) (sym e)
    (tops_from_order a TOP_ROOM 1 x xs (λ y m. (s.inside y m).top_high) (s.inside x (member-head x xs)).top_low s.order) in
    let apart : Distinct gs = (Ascends-distinct a.top 1 TOP_ROOM gs old).0 in
    let new : map b.top gs ≡ set (map a.top gs) i w.top = map_stored a.top b.top gs i w.top apart l st.top st.tops in
    let same : (y : ℕ) → member y (x ∷ xs) ≡ true → (b.group y ≡ a.group y) × (b.bottom y ≡ a.bottom y) = λ y m. let k = (s.inside y m).below in
    (st.groups y k, st.bottoms y k) in
    let asc' : Ascends 1 TOP_ROOM (map b.top gs) = subst (Ascends 1 TOP_ROOM) (sym new) asc in
    let order : InOrder (Before b) (x ∷ xs) = order_from_tops a b TOP_ROOM 1 x xs same (subst (λ hs. Ascends 1 TOP_ROOM (map b.top hs)) e asc') s.order in
    let in-range : (y : ℕ) → member y (x ∷ xs) ≡ true → (1 ≤ b.top (b.group y)) × (b.top (b.group y) < TOP_ROOM) = λ y m.
    let k : member (a.group y) gs ≡ true = ap (member (a.group y)) e ∙ item_runs a.group y (x ∷ xs) m in
    let r = all_range b.top 1 TOP_ROOM gs (a.group y) asc' k in
    (omega (arith, ap b.top (same y m).0, r.0), omega (arith, ap b.top (same y m).0, r.1)) in
    record {
      fits = fits;
      below = high;
      sound = record {
        size = length-set ws (n + get_or gs i 0) (group_word w) ∙ s.size;
        distinct = s.distinct;
        order = order;
        inside = λ y m. let p = s.inside y m in let q = same y m in record {
          below = p.below;
          group_low = omega (arith, q.0, p.group_low);
          group_high = omega (arith, q.0, p.group_high);
          bottom_low = omega (arith, q.1, p.bottom_low);
          bottom_high = omega (arith, q.1, p.bottom_high);
          top_low = omega (arith, (in-range y m).0);
          top_high = (in-range y m).1;
        };
        outside = λ y k o. st.groups y k ∙ s.outside y k o;
      };
      same_runs = runs-same a.group b.group (x ∷ xs) (λ y m. (same y m).0) ∙ sym e;
      tops = new;
    }

-- after one store of a spread of the groups by the word as the program stores it, which is read again
pub record RetopFacts (n : ℕ) (ws list gs : List ℕ) (i : ℕ) (w : GroupWord) : Type 0 where
  pub all : Retopped n ws list gs i w
  pub read : get_or (set ws (n + get_or gs i 0) (group_word w)) (n + get_or gs i 0) 0 ≡ group_word w
  pub again : (item_of (get_or (set ws (n + get_or gs i 0) (group_word w)) (n + get_or gs i 0) 0)).version ≡ w.version

-- the word that the program stores as a group gets a new label keeps the list in order
pub retop_facts : (n : ℕ) (ws list gs : List ℕ) (i : ℕ) (w : GroupWord) → WordsKeepList n ws list → gs ≡ runs (labels n ws).group list → i < length gs
    → w.version < 2 ^ VERSION_BITS → Ascends 1 TOP_ROOM (set (map (labels n ws).top gs) i w.top) → RetopFacts n ws list gs i w
retop_facts n ws list gs i w s e l v-fits asc =
    let all = group-retopped n ws list gs i w s e l v-fits asc in
    let read : get_or (set ws (n + get_or gs i 0) (group_word w)) (n + get_or gs i 0) 0 ≡ group_word w =
    get_or-set_same ws (n + get_or gs i 0) (group_word w) 0 (omega (arith, s.size, all.below)) in
    record {
      all = all;
      read = read;
      again = same_version (get_or (set ws (n + get_or gs i 0) (group_word w)) (n + get_or gs i 0) 0)
          ∙ ap (λ z. z.version) (ap group_of read ∙ group_of-group_word w all.fits);
    }

-- the group at a place of the groups in use has a number from 1 to n + 1
pub group_range : (n : ℕ) (ws list gs : List ℕ) (i : ℕ) → WordsKeepList n ws list → gs ≡ runs (labels n ws).group list → i < length gs
    → (0 < get_or gs i 0) × (get_or gs i 0 ≤ n + 1)
group_range n ws list gs i s e l =
    let from = runs_item (labels n ws).group (get_or gs i 0) list (ap (member (get_or gs i 0)) (sym e) ∙ member-get_or gs i 0 l) in
    (omega (arith, from.2, (s.inside from.0 from.1).group_low), omega (arith, from.2, (s.inside from.0 from.1).group_high))

-- at first no step of a schedule for the groups is done
pub topway-none : (n : ℕ) (list : List ℕ) (p : Paper) (gs : List ℕ) (ss : Writes) → WordsKeepList n p.words list → gs ≡ runs (labels n p.words).group list
    → Topway n list p p gs ss 0
topway-none n list p gs ss s e =
    record {
      sound = s;
      groups = e;
      tops = refl;
      steps = WritesKeepOrder-none n list p (ordered_from n p.words list s);
      versions = λ w. omega arith;
      only =
          only-none (map (λ g. n + g) gs) p.words;
      waiting = λ k _ _. refl;
      length_is = omega arith;
      room = refl;
    }

-- after the next step of a schedule for the groups the labels ascend
pub topway-ascends : (n : ℕ) (list : List ℕ) (p q : Paper) (gs : List ℕ) (ss : Writes) (j : ℕ) → Topway n list p q gs ss j
    → ((k : ℕ) → k ≤ length ss → Ascends 1 TOP_ROOM (written (map (labels n p.words).top gs) (take k ss))) → j < length ss
    → Ascends 1 TOP_ROOM (set (map (labels n q.words).top gs) (get_or ss j (0, 0)).0 (get_or ss j (0, 0)).1)
topway-ascends n list p q gs ss j h asc l =
    subst (Ascends 1 TOP_ROOM) (written-more (map (labels n p.words).top gs) ss j l
    ∙ ap (λ xs. set xs (get_or ss j (0, 0)).0 (get_or ss j (0, 0)).1) (sym h.tops)) (asc (j + 1) (omega arith))

-- the word that the next step of a schedule for the groups writes has a version to spare
pub topway-version : (n : ℕ) (list : List ℕ) (p q : Paper) (gs : List ℕ) (ss : Writes) (j : ℕ) → Topway n list p q gs ss j
    → ((g : ℕ) → member g gs ≡ true → version p.words (n + g) < LAST_VERSION) → (get_or ss j (0, 0)).0 < length gs → j < length ss
    → version q.words (n + get_or gs (get_or ss j (0, 0)).0 0) < LAST_VERSION
topway-version n list p q gs ss j h v p-in l =
    omega (arith, h.waiting j (omega arith) l, v (get_or gs (get_or ss j (0, 0)).0 0) (member-get_or gs (get_or ss j (0, 0)).0 0 p-in))

-- one step more of a schedule for the groups is done
pub topway-more : (n : ℕ) (list : List ℕ) (p q r : Paper) (gs : List ℕ) (ss : Writes) (j v : ℕ) → Topway n list p q gs ss j → j < length ss → Distinct gs
    → Distinct (places ss) → ((p : ℕ) → member p (places ss) ≡ true → p < length gs)
    → WordsKeepList n r.words list → gs ≡ runs (labels n r.words).group list
    → map (labels n r.words).top gs ≡ set (map (labels n q.words).top gs) (get_or ss j (0, 0)).0 (get_or ss j (0, 0)).1
    → r.words ≡ set q.words (n + get_or gs (get_or ss j (0, 0)).0 0) v
    → r.writes ≡ q.writes ++ record { word = n + get_or gs (get_or ss j (0, 0)).0 0; value = v } ∷ []
    → version r.words (n + get_or gs (get_or ss j (0, 0)).0 0) ≡ version q.words (n + get_or gs (get_or ss j (0, 0)).0 0) + 1 → r.room ≡ q.room
    → Topway n list p r gs ss (j + 1)
topway-more n list p q r gs ss j v h l d once within sound groups tops words writes ver room =
    let other : (w : ℕ) → w ≢ n + get_or gs (get_or ss j (0, 0)).0 0 → version r.words w ≡ version q.words w =
    λ w ne. ap (λ z. (item_of z).version) (ap (λ ws. get_or ws w 0) words ∙ get_or-set_other q.words (n + get_or gs (get_or ss j (0, 0)).0 0) w v 0 ne) in
    let one : Write = record { word = n + get_or gs (get_or ss j (0, 0)).0 0; value = v } in
    record {
      sound = sound;
      groups = groups;
      tops = tops ∙ (ap (λ xs. set xs (get_or ss j (0, 0)).0 (get_or ss j (0, 0)).1) h.tops ∙ sym (written-more (map (labels n p.words).top gs) ss j l));
      steps = WritesKeepOrder-push n list p q r one h.steps words writes (ordered_from n r.words list sound)
          (raises_from q.words r.words (n + get_or gs (get_or ss j (0, 0)).0 0) v
          (omega (arith, (group_range n q.words list gs (get_or ss j (0, 0)).0 h.sound h.groups (place-in gs ss j within l)).0))
          (omega (arith, (group_range n q.words list gs (get_or ss j (0, 0)).0 h.sound h.groups (place-in gs ss j within l)).1, h.sound.size)) words ver);
      versions = λ w. elim (cases_eq w (n + get_or gs (get_or ss j (0, 0)).0 0)) [
        | inl e ↦ subst (λ u. version r.words u ≤ version p.words u + 1) (sym e) (omega (arith, ver, h.waiting j (omega arith) l))
        | inr ne ↦ omega (arith, other w ne, h.versions w)
      ];
      only = only-more (map (λ g. n + g) gs) p.words q.words r.words (n + get_or gs (get_or ss j (0, 0)).0 0) v h.only
          (member-map (λ g. n + g) gs (get_or gs (get_or ss j (0, 0)).0 0) (member-get_or gs (get_or ss j (0, 0)).0 0 (place-in gs ss j within l))) words;
      waiting = λ k j-k k-in.
          let differ : (get_or ss j (0, 0)).0 ≢ (get_or ss k (0, 0)).0 =
          λ e. Distinct-at (places ss) j k once (omega arith) (omega (arith, length-places ss)) (place_at ss j ∙ (e ∙ sym (place_at ss k))) in
          let apart : n + get_or gs (get_or ss k (0, 0)).0 0 ≢ n + get_or gs (get_or ss j (0, 0)).0 0 =
          λ e. two-apart gs (get_or ss j (0, 0)).0 (get_or ss k (0, 0)).0 d differ (place-in gs ss j within l) (place-in gs ss k within k-in)
          (omega arith) in
          other (n + get_or gs (get_or ss k (0, 0)).0 0) apart ∙ h.waiting k (omega arith) k-in;
      length_is = ap length writes ∙ omega (arith, length_push q.writes one, h.length_is);
      room = room ∙ h.room;
    }

-- the groups of a list are distinct, and their labels ascend
pub runs_distinct : (n : ℕ) (ws list : List ℕ) → WordsKeepList n ws list
    → Distinct (runs (labels n ws).group list) × Ascends 1 TOP_ROOM (map (labels n ws).top (runs (labels n ws).group list))
runs_distinct n ws [] s = (tt, omega arith)
runs_distinct n ws (x ∷ xs) s =
    let asc = tops_from_order (labels n ws) TOP_ROOM 1 x xs (λ y m. (s.inside y m).top_high) (s.inside x (member-head x xs)).top_low s.order in
    ((Ascends-distinct (labels n ws).top 1 TOP_ROOM (runs (labels n ws).group (x ∷ xs)) asc).0, asc)
