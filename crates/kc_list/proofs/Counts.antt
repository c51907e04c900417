-- How many items a group has, that a group number is free, and the gap above a group.
use Rattle.std.proofs.Common.{◌≡◌, ℕ, suc, zero, ◌+◌, ◌-◌, ◌<◌, ◌≤◌, true, cond, List, [], ◌∷◌, ◌++◌, length, get_or, take, drop, eqb, refl, sym, ◌∙◌}
use Rattle.std.proofs.Common.{ap, subst, ◌⊎◌, inl, inr, arith}
use Rattle.std.proofs.lemmas.Bool.{ne_eqb, eqb-true, eqb-false, eq-eqb, cases_eq, cases_Bool, false≢true}
use Rattle.std.proofs.lemmas.List.{append_assoc, take_all, take_more, take-append-drop, length-take-le, take_rest, length-drop}
use Rattle.kc_lists.specs.Lists.{member, Distinct, without, right_after, next_of, head_or, InOrder}
use Rattle.kc_lists.proofs.Members.{member-head, member-tail, member-cases, member-append, member-append_right, without-member, without-none}
use Rattle.kc_lists.proofs.Members.{Distinct-cut, next_of-cut, next_of-in}
use Rattle.kc_words.specs.Order.{Labels, labels}
use Rattle.kc_list.specs.Places.{Before, Placed, WordsKeepList, Segment, runs, size_of, top_end}
use Rattle.kc_list.proofs.Order.{order-parts, Before-then}
use Rattle.kc_list.proofs.Gathering.{all_before, size-append, size-all}
use Rattle.kc_words.specs.declared.layout.TheConstants.{TOP_ROOM}
use Rattle.kc_list.specs.declared.limits.TheConstants.{GROUP_ITEMS, HALF_ITEMS}
use Rattle.kc_words.proofs.Ordering.{Follows-all, InOrder-tail}

-- a group that no item of a list is in has size 0
size-none : (f : ℕ → ℕ) (g : ℕ) (xs : List ℕ) → ((y : ℕ) → member y xs ≡ true → f y ≡ g → ⊥) → size_of f g xs ≡ 0
size-none f g [] h = refl
size-none f g (x ∷ xs) h = rw (ne_eqb (f x) g (h x (member-head x xs))) (omega (arith, size-none f g xs (λ y k. h y (member-tail y x xs k))))

-- the size of a group is the length of its segment
pub segment_size : (a : Labels) (list : List ℕ) (g : ℕ) (m : List ℕ) → Segment a list g m → size_of a.group g list ≡ length m
segment_size a list g m seg =
    omega (
      arith,
      ap (size_of a.group g) seg.is,
      size-append a.group g seg.front (m ++ seg.back),
      size-append a.group g m seg.back,
      size-all a.group g m seg.members,
      size-none a.group g seg.front (λ y k. seg.others y (inl k)),
      size-none a.group g seg.back (λ y k. seg.others y (inr k)),
    )

-- without x, the group of x has one item less, and each other as many
pub size-without : (f : ℕ → ℕ) (g x : ℕ) (xs : List ℕ) → Distinct xs → member x xs ≡ true → size_of f g (without x xs) + cond (eqb (f x) g) 1 0 ≡ size_of f g xs
size-without f g x [] d m = absurd (false≢true m)
size-without f g x (y ∷ ys) d m =
    elim (cases_Bool (eqb x y)) [
      | inl t ↦
          let e : x ≡ y = eqb-true x y t in
          let rest : without x ys ≡ ys = without-none x ys (ap (λ z. member z ys) e ∙ d.0) in
          rw t (omega (arith, ap (size_of f g) rest, ap {B = ℕ} (λ z. cond (eqb (f z) g) 1 0) e))
      | inr t ↦
          let m' : member x ys ≡ true = elim (member-cases x y ys m) [ inl e ↦ absurd (eqb-false x y t e) | inr k ↦ k ] in
          rw t (omega (arith, size-without f g x ys d.1 m'))
    ]

-- with x put right after p, the group of x has one item more, and each other as many
pub size-right_after : (f : ℕ → ℕ) (g x p : ℕ) (xs : List ℕ) → Distinct xs → member p xs ≡ true
    → size_of f g (right_after x p xs) ≡ size_of f g xs + cond (eqb (f x) g) 1 0
size-right_after f g x p [] d m = absurd (false≢true m)
size-right_after f g x p (y ∷ ys) d m =
    elim (cases_Bool (eqb p y)) [
      | inl t ↦ rw t (omega arith)
      | inr t ↦
          let m' : member p ys ≡ true = elim (member-cases p y ys m) [ inl e ↦ absurd (eqb-false p y t e) | inr k ↦ k ] in
          rw t (omega (arith, size-right_after f g x p ys d.1 m'))
    ]

-- where the items of a list keep their groups, a group keeps its size
pub size-agree : (f h : ℕ → ℕ) (g : ℕ) (xs : List ℕ) → ((y : ℕ) → member y xs ≡ true → h y ≡ f y) → size_of h g xs ≡ size_of f g xs
size-agree f h g [] e = refl
size-agree f h g (x ∷ xs) e = omega (
  arith,
  ap {B = ℕ} (λ z. cond (eqb z g) 1 0) (e x (member-head x xs)),
  size-agree f h g xs (λ y k. e y (member-tail y x xs k)),
)

-- a list without x is no longer than the list
no_longer : (x : ℕ) (xs : List ℕ) → length (without x xs) ≤ length xs
no_longer x [] = omega arith
no_longer x (y ∷ ys) = elim (cases_Bool (eqb x y)) [ inl t ↦ rw t (omega (arith, no_longer x ys)) | inr t ↦ rw t (omega (arith, no_longer x ys)) ]

-- a list without a member is shorter than the list
without-shorter : (x : ℕ) (xs : List ℕ) → member x xs ≡ true → suc (length (without x xs)) ≤ length xs
without-shorter x [] m = absurd (false≢true m)
without-shorter x (y ∷ ys) m =
    elim (cases_Bool (eqb x y)) [
      | inl t ↦ rw t (omega (arith, no_longer x ys))
      | inr t ↦ rw t (omega (arith, without-shorter x ys (elim (member-cases x y ys m) [ inl e ↦ absurd (eqb-false x y t e) | inr k ↦ k ])))
    ]

-- a list that has each of 1 to k has length k at least
pub numbers-covered : (k : ℕ) (xs : List ℕ) → ((h : ℕ) → 0 < h → h ≤ k → member h xs ≡ true) → k ≤ length xs
numbers-covered zero xs f = omega arith
numbers-covered (suc k) xs f =
    let m = f (suc k) (omega arith) (omega arith) in
    omega (
      arith,
      without-shorter (suc k) xs m,
      numbers-covered k (without (suc k) xs)
          (λ h p q. without-member h (suc k) xs (f h p (omega arith)) (omega arith)),
    )

-- a list has no more groups than items
pub runs_short : (f : ℕ → ℕ) (xs : List ℕ) → length (runs f xs) ≤ length xs
runs_short f [] = omega arith
runs_short f (x ∷ []) = omega arith
runs_short f (x ∷ y ∷ ys) = let rest : length (runs f (y ∷ ys)) ≤ suc (length ys) = runs_short f (y ∷ ys) in
    elim (cases_Bool (eqb (f x) (f y))) [ inl t ↦ rw t (omega (arith, rest)) | inr t ↦ rw t (omega (arith, rest)) ]

-- two fronts, a last and a back are one list, however they are joined
last-regrouped : (f m : List ℕ) (l : ℕ) (b : List ℕ) → f ++ ((m ++ l ∷ []) ++ b) ≡ (f ++ m) ++ l ∷ b
last-regrouped f m l b = simp append_assoc

-- a label below that of the first of some items in order is below those of all of them
above_back : (n : ℕ) (a : Labels) (t z : ℕ) (back : List ℕ) → InOrder (Before a) back → ((y : ℕ) → member y back ≡ true → y < n)
    → t < top_end n a (head_or n back) → member z back ≡ true → t < a.top (a.group z)
above_back n a t z [] h f lt m = absurd (false≢true m)
above_back n a t z (q ∷ back) h f lt m =
    let low : t < a.top (a.group q) = rw (ne_eqb q n (let b : q < n = f q (member-head q back) in omega arith)) at lt in
    elim (member-cases z q back m) [
      | inl e ↦ omega (arith, low, ap (λ y. a.top (a.group y)) e)
      | inr k ↦ elim (Follows-all (Before a) (Before-then a) q z back h k) [ inl e ↦ omega (arith, low, ap a.top e.0) | inr u ↦ omega (arith, low, u) ]
    ]

-- a label below the end of the gap above a group is below those of all groups after it
pub top_gap : (n : ℕ) (ws list : List ℕ) (g last t : ℕ) (m : List ℕ) → WordsKeepList n ws list → Segment (labels n ws) list g (m ++ last ∷ [])
    → t < top_end n (labels n ws) (next_of n last list) → (z : ℕ) → member z list ≡ true → (labels n ws).top g < (labels n ws).top ((labels n ws).group z)
    → t < (labels n ws).top ((labels n ws).group z)
top_gap n ws list g last t m s seg lt z z-in above =
    let a = labels n ws in
    let whole : list ≡ (seg.front ++ m) ++ last ∷ seg.back = seg.is ∙ last-regrouped seg.front m last seg.back in
    let order : InOrder (Before a) ((seg.front ++ m) ++ last ∷ seg.back) = subst (InOrder (Before a)) whole s.order in
    let apart = Distinct-cut last (seg.front ++ m) seg.back (subst Distinct whole s.distinct) in
    let next : next_of n last list ≡ head_or n seg.back = ap (next_of n last) whole ∙ next_of-cut n last (seg.front ++ m) seg.back apart.0 in
    let last-g : a.group last ≡ g = seg.members last (member-append_right last m (last ∷ []) (member-head last [])) in
    elim (member-append z (seg.front ++ m) (last ∷ seg.back) (ap (member z) (sym whole) ∙ z-in)) [
      | inl k ↦ elim (all_before (Before a) (Before-then a) z last (seg.front ++ m) seg.back order k) [
        | inl e ↦ absurd (let u = ap a.top (e.0 ∙ last-g) in omega (arith, u, above))
        | inr u ↦ absurd (let v = ap a.top last-g in omega (arith, u, v, above))
      ]
      | inr k ↦ elim (member-cases z last seg.back k) [
        | inl e ↦ absurd (let u = ap a.top (ap a.group e ∙ last-g) in omega (arith, u, above))
        | inr q ↦ above_back n a t z seg.back (InOrder-tail (Before a) last seg.back ((order-parts (Before a) (seg.front ++ m) (last ∷ seg.back) order).right))
            (λ y y-in. (s.inside y (ap (member y) whole
            ∙ member-append_right y (seg.front ++ m) (last ∷ seg.back) (member-tail y last seg.back y-in))).below) (subst (λ w. t < top_end n a w) next lt) q
      ]
    ]

-- what follows x, where it is not the end, is in the list and has what an item of it has
pub next_in : (n : ℕ) (ws list : List ℕ) (x q : ℕ) → WordsKeepList n ws list → q ≡ next_of n x list → (q ≡ n → ⊥)
    → (member q list ≡ true) × Placed n (labels n ws) q
next_in n ws list x q s e ne =
    let m : member q list ≡ true = elim (next_of-in n x list) [ inl z ↦ absurd (ne (e ∙ z)) | inr k ↦ ap (λ w. member w list) e ∙ k ] in
    (m, s.inside q m)

-- where labels are two below those of later groups, one fits above a group, seen from what is behind it
top_room_first : (n : ℕ) (a : Labels) (g last : ℕ) (back : List ℕ) → a.group last ≡ g → InOrder (Before a) (last ∷ back)
    → ((y : ℕ) → member y back ≡ true → (a.group y ≡ g → ⊥)) → ((y : ℕ) → member y back ≡ true → y < n)
    → ((y : ℕ) → member y back ≡ true → a.top g < a.top (a.group y) → a.top g + 2 ≤ a.top (a.group y)) → a.top g + 2 ≤ TOP_ROOM
    → a.top g + 2 ≤ top_end n a (head_or n back)
top_room_first n a g last [] e h f l k z = rw (eq-eqb n n refl) z
top_room_first n a g last (q ∷ back) e h f l k z =
    let q-in = member-head q back in
    let b : q < n = l q q-in in
    let up : a.top g < a.top (a.group q) = elim h.0 [ inl t ↦ absurd (f q q-in (sym t.0 ∙ e)) | inr u ↦ omega (arith, u, ap a.top e) ] in
    rw (ne_eqb q n (let c = b in omega arith)) (k q q-in up)

-- where labels are two below those of later groups, one fits above a group, seen from its last member
pub top_room : (n : ℕ) (ws list : List ℕ) (g last : ℕ) (m : List ℕ) → WordsKeepList n ws list → Segment (labels n ws) list g (m ++ last ∷ [])
    → ((z : ℕ) → member z list ≡ true → (labels n ws).top g < (labels n ws).top ((labels n ws).group z)
    → (labels n ws).top g + 2 ≤ (labels n ws).top ((labels n ws).group z)) → (labels n ws).top g + 2 ≤ TOP_ROOM
    → (labels n ws).top g + 2 ≤ top_end n (labels n ws) (next_of n last list)
top_room n ws list g last m s seg k z =
    let a = labels n ws in
    let whole : list ≡ (seg.front ++ m) ++ last ∷ seg.back = seg.is ∙ last-regrouped seg.front m last seg.back in
    let order : InOrder (Before a) ((seg.front ++ m) ++ last ∷ seg.back) = subst (InOrder (Before a)) whole s.order in
    let apart = Distinct-cut last (seg.front ++ m) seg.back (subst Distinct whole s.distinct) in
    let next : next_of n last list ≡ head_or n seg.back = ap (next_of n last) whole ∙ next_of-cut n last (seg.front ++ m) seg.back apart.0 in
    let in' : (y : ℕ) → member y seg.back ≡ true → member y list ≡ true = λ y y-in. ap (member y) whole
    ∙ member-append_right y (seg.front ++ m) (last ∷ seg.back) (member-tail y last seg.back y-in) in
    subst (λ q. a.top g + 2 ≤ top_end n a q) (sym next)
    (top_room_first n a g last seg.back (seg.members last (member-append_right last m (last ∷ []) (member-head last [])))
    ((order-parts (Before a) (seg.front ++ m) (last ∷ seg.back) order).right) (λ y y-in. seg.others y (inr y-in)) (λ y y-in. (s.inside y (in' y y-in)).below)
    (λ y y-in. k y (in' y y-in)) z)

-- the array of a full group
pub record Full (into : List ℕ) (count : ℕ) : Type 0 where
  pub whole : take count into ≡ into
  pub last : into ≡ take (GROUP_ITEMS - 1) into ++ get_or into (GROUP_ITEMS - 1) 0 ∷ []
  pub halves : into ≡ take HALF_ITEMS into ++ drop HALF_ITEMS into

-- an array with as many members as a full group is whole, and has a last and two halves
pub array-full : (into : List ℕ) (count : ℕ) → length into ≡ GROUP_ITEMS → count ≤ length into → length (take count into) ≡ GROUP_ITEMS → Full into count
array-full into count e l k = record {
  whole = take_all count into (omega (arith, length-take-le count into l));
  last = sym (take_all GROUP_ITEMS into (omega arith)) ∙ take_more into (GROUP_ITEMS - 1) 0 (omega arith);
  halves = sym (take-append-drop HALF_ITEMS into);
}

-- what was gathered of a full group fills the array
pub full_segment : (a : Labels) (list : List ℕ) (g count : ℕ) (into : List ℕ) → Segment a list g (take count into)
    → length into ≡ GROUP_ITEMS → count ≤ length into → size_of a.group g list ≡ GROUP_ITEMS → Segment a list g into
full_segment a list g count into seg len within size =
    let k = segment_size a list g (take count into) seg in
    subst (Segment a list g) (array-full into count len within (omega (arith, k, size))).whole seg

-- the parts of a full group
pub record Halves (n : ℕ) (a : Labels) (list : List ℕ) (g : ℕ) (m : List ℕ) : Type 0 where
  pub last : Segment a list g (take (GROUP_ITEMS - 1) m ++ get_or m (GROUP_ITEMS - 1) 0 ∷ [])
  pub halves : Segment a list g (take HALF_ITEMS m ++ take (length m - HALF_ITEMS) (drop HALF_ITEMS m))
  pub upper : (y : ℕ) → member y (take (length m - HALF_ITEMS) (drop HALF_ITEMS m)) ≡ true → member y m ≡ true
  pub cases : (y : ℕ) → member y m ≡ true → (member y (take HALF_ITEMS m) ≡ true) ⊎ (member y (take (length m - HALF_ITEMS) (drop HALF_ITEMS m)) ≡ true)
  pub low_length : length (take HALF_ITEMS m) ≡ HALF_ITEMS
  pub up_length : length (take (length m - HALF_ITEMS) (drop HALF_ITEMS m)) ≡ HALF_ITEMS

-- a full group has a last member, a lower half and an upper half
pub group-halves : (n : ℕ) (a : Labels) (list : List ℕ) (g : ℕ) (m : List ℕ) → Segment a list g m → length m ≡ GROUP_ITEMS → Halves n a list g m
group-halves n a list g m seg e =
    let last : m ≡ take (GROUP_ITEMS - 1) m ++ get_or m (GROUP_ITEMS - 1) 0 ∷ [] = sym (take_all GROUP_ITEMS m (omega arith))
    ∙ take_more m (GROUP_ITEMS - 1) 0 (omega arith) in
    let two : m ≡ take HALF_ITEMS m ++ take (length m - HALF_ITEMS) (drop HALF_ITEMS m) = sym (take-append-drop HALF_ITEMS m)
    ∙ ap (λ zs. take HALF_ITEMS m ++ zs) (sym (take_rest m HALF_ITEMS)) in
    record {
      last = subst (Segment a list g) last seg;
      halves = subst (Segment a list g) two seg;
      upper = λ y k. ap (member y) two ∙ member-append_right y (take HALF_ITEMS m) (take (length m - HALF_ITEMS) (drop HALF_ITEMS m)) k;
      cases = λ y k. member-append y (take HALF_ITEMS m) (take (length m - HALF_ITEMS) (drop HALF_ITEMS m)) (ap (member y) (sym two) ∙ k);
      low_length = length-take-le HALF_ITEMS m (omega arith);
      up_length = ap length (take_rest m HALF_ITEMS) ∙ (length-drop HALF_ITEMS m ∙ omega arith);
    }

-- the gap above a group ends no higher than all labels of groups
pub top_end_high : (n : ℕ) (ws list : List ℕ) (x : ℕ) → WordsKeepList n ws list → top_end n (labels n ws) (next_of n x list) ≤ TOP_ROOM
top_end_high n ws list x s = elim (cases_eq (next_of n x list) n) [
  | inl e ↦ rw (eq-eqb (next_of n x list) n e) (omega arith)
  | inr ne ↦ rw (ne_eqb (next_of n x list) n ne) (let p = (next_in n ws list x (next_of n x list) s refl ne).1 in omega (arith, p.top_high))
]
