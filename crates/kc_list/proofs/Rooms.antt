-- Room after a spread, and a whole put.
use Rattle.std.proofs.Common.{◌≡◌, ℕ, suc, ◌+◌, ◌*◌, ◌/◌, ◌<◌, ◌≤◌, true, List, [], ◌∷◌, ◌++◌, length, get_or, map, refl, sym, ◌∙◌, ap, subst, inl, inr, arith}
use Rattle.std.proofs.lemmas.Bool.{ne_eqb, eq-eqb}
use Rattle.std.proofs.lemmas.List.{append_assoc, length-append, get_or-map, get_or_at}
use Rattle.std.proofs.lemmas.Nat.{le-div, div-add-mod'}
use Rattle.kc_lists.specs.Lists.{member, Distinct, head_or, next_of}
use Rattle.kc_lists.proofs.Members.{member-head, member-tail, member-append, member-append_right, member-cut, Distinct-cut, next_of-cut}
use Rattle.kc_words.specs.Order.{Labels, labels}
use Rattle.kc_list.specs.Places.{WordsKeepList, Segment, evens, end_at, gap_end}
use Rattle.kc_list.proofs.Spreading.{get_or-evens}
use Rattle.kc_words.specs.declared.layout.TheConstants.{BOTTOM_ROOM}
use Rattle.kc_list.specs.declared.limits.TheConstants.{GROUP_ITEMS}

-- an item whose group has labels at even distances has a label after it
room_at : (n : ℕ) (a : Labels) (p step : ℕ) (m2 back : List ℕ) (i count : ℕ) → count ≡ i + suc (length m2) → a.bottom p ≡ (i + 1) * step → 2 ≤ step
    → (count + 1) * step ≤ BOTTOM_ROOM → ((q : ℕ) → member q (m2 ++ back) ≡ true → (q ≡ n → ⊥)) → ((q : ℕ) → member q m2 ≡ true → a.group q ≡ a.group p)
    → ((q : ℕ) → member q back ≡ true → a.group q ≡ a.group p → ⊥) → ((q : ℕ) (r : List ℕ) → m2 ≡ q ∷ r → a.bottom q ≡ (i + 2) * step)
    → a.bottom p + 2 ≤ end_at n a p (head_or n (m2 ++ back))
room_at n a p step [] [] i count c b two all f g h k =
    rw (eq-eqb n n refl) (let e : i + 1 ≡ count = omega (arith, c) in let t : (i + 1) * step + step ≤ BOTTOM_ROOM =
    (let u = ap (λ z. z * step) e in omega (arith, all, u)) in omega (arith, b, t))
room_at n a p step [] (z ∷ back) i count c b two all f g h k =
    rw (ne_eqb z n (f z (member-head z back)), ne_eqb (a.group z) (a.group p) (h z (member-head z back))) (let e : i + 1 ≡ count = omega (arith, c) in
    let t : (i + 1) * step + step ≤ BOTTOM_ROOM = (let u = ap (λ w. w * step) e in omega (arith, all, u)) in omega (arith, b, t))
room_at n a p step (q ∷ m2) back i count c b two all f g h k =
    rw (ne_eqb q n (f q (member-head q (m2 ++ back))), eq-eqb (a.group q) (a.group p) (g q (member-head q m2)))
    (let u = k q m2 refl in omega (arith, b, u, two))

-- nothing, and k, and one are one more than k
zero-plus : (k : ℕ) → 0 + k + 1 ≡ k + 1
zero-plus k = omega arith

-- two fronts, p and two backs are one list, however they are joined
backs-regrouped : (f l : List ℕ) (p : ℕ) (r k : List ℕ) → f ++ ((l ++ p ∷ r) ++ k) ≡ (f ++ l) ++ p ∷ (r ++ k)
backs-regrouped f l p r k = simp append_assoc

-- an item of the list that is in a group is among the group's members
pub in_segment : (a : Labels) (list : List ℕ) (g : ℕ) (m : List ℕ) (y : ℕ) → Segment a list g m → member y list ≡ true → a.group y ≡ g → member y m ≡ true
in_segment a list g m y seg k e =
    elim (member-append y seg.front (m ++ seg.back) (ap (member y) (sym seg.is) ∙ k)) [
      | inl p ↦ absurd (seg.others y (inl p) e)
      | inr p ↦ elim (member-append y m seg.back p) [ inl q ↦ q | inr q ↦ absurd (seg.others y (inr q) e) ]
    ]

-- after a group is spread each of its items has a label after it
pub room_after_spread : (n : ℕ) (ws list : List ℕ) (m : List ℕ) (p : ℕ) → WordsKeepList n ws list → Segment (labels n ws) list ((labels n ws).group p) m
    → length m ≤ GROUP_ITEMS → member p list ≡ true → map (labels n ws).bottom m ≡ evens (length m) (BOTTOM_ROOM / (length m + 1)) 0
    → (labels n ws).bottom p + 2 ≤ gap_end n ws list p
room_after_spread n ws list m p s seg le p-in e =
    let a = labels n ws in
    let p-m : member p m ≡ true = in_segment a list (a.group p) m p seg p-in refl in
    let c = member-cut p m p-m in
    let step = BOTTOM_ROOM / (length m + 1) in
    let whole : list ≡ (seg.front ++ c.front) ++ p ∷ (c.back ++ seg.back) =
    seg.is ∙ (ap (λ zs. seg.front ++ (zs ++ seg.back)) c.is ∙ backs-regrouped seg.front c.front p c.back seg.back) in
    let apart = Distinct-cut p (seg.front ++ c.front) (c.back ++ seg.back) (subst Distinct whole s.distinct) in
    let next : next_of n p list ≡ head_or n (c.back ++ seg.back) = ap (next_of n p) whole
    ∙ next_of-cut n p (seg.front ++ c.front) (c.back ++ seg.back) apart.0 in
    let count : length m ≡ length c.front + suc (length c.back) = omega (arith, ap length c.is, length-append c.front (p ∷ c.back)) in
    let bottom_at : (k q : ℕ) → k < length m → get_or m k 0 ≡ q → a.bottom q ≡ (k + 1) * (BOTTOM_ROOM / (length m + 1)) = λ k q l is. ap a.bottom (sym is)
    ∙ (sym (get_or-map a.bottom m k 0 0 l)
    ∙ (ap (λ zs. get_or zs k 0) e ∙ (get_or-evens (length m) (BOTTOM_ROOM / (length m + 1)) 0 k l
    ∙ ap (λ z. z * (BOTTOM_ROOM / (length m + 1))) (zero-plus k)))) in
    let two : 2 ≤ BOTTOM_ROOM / (length m + 1) = le-div 2 BOTTOM_ROOM (length m + 1) (omega arith) (omega arith) in
    let all : (length m + 1) * (BOTTOM_ROOM / (length m + 1)) ≤ BOTTOM_ROOM = let d = div-add-mod' BOTTOM_ROOM (length m + 1) in omega (arith, d) in
    let in-list : (q : ℕ) → member q (c.back ++ seg.back) ≡ true → member q list ≡ true = λ q k. ap (member q) whole
    ∙ member-append_right q (seg.front ++ c.front) (p ∷ (c.back ++ seg.back)) (member-tail q p (c.back ++ seg.back) k) in
    subst (λ q. a.bottom p + 2 ≤ end_at n a p q) (sym next)
    (room_at n a p (BOTTOM_ROOM / (length m + 1)) c.back seg.back (length c.front) (length m) count
    (bottom_at (length c.front) p (omega arith) (ap (λ zs. get_or zs (length c.front) 0) c.is ∙ get_or_at c.front p c.back 0 (length c.front) refl)) two all
    (λ q k w. let b : q < n = (s.inside q (in-list q k)).below in absurd (omega arith))
    (λ q k. seg.members q (ap (member q) c.is ∙ member-append_right q c.front (p ∷ c.back) (member-tail q p c.back k)))
    (λ q k. seg.others q (inr k))
    (λ q r is. let two-on : length c.front + 1 + 1 ≡ length c.front + 2 = omega arith in
    bottom_at (length c.front + 1) q (omega (arith, ap length is))
    (ap (λ zs. get_or zs (length c.front + 1) 0) (c.is ∙ (ap (λ zs. c.front ++ p ∷ zs) is ∙ sym (append_assoc c.front (p ∷ []) (q ∷ r))))
    ∙ get_or_at (c.front ++ p ∷ []) q r 0 (length c.front + 1) (omega (arith, length-append c.front (p ∷ []))))
    ∙ ap (λ z. z * (BOTTOM_ROOM / (length m + 1))) two-on))
