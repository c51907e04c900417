-- A ring after an edit.
use Rattle.std.proofs.Common.{◌≡◌, ◌≢◌, ℕ, suc, zero, ◌+◌, ◌^◌, ◌<◌, ◌≤◌, ◌-◌, true, false, List, [], ◌∷◌, ◌++◌, length, get_or, set, replicate, refl}
use Rattle.std.proofs.Common.{sym, ◌∙◌, ap, subst, ◌⊎◌, inl, inr, arith}
use Rattle.std.proofs.lemmas.Bool.{true≢false, false≢true}
use Rattle.std.proofs.lemmas.List.{get_or-set_same, get_or-set_other, append_assoc, length-append, length-set, get_or_read, get_or-replicate, length-replicate}
use Rattle.kc_lists.specs.Lists.{member, Distinct, without, right_after, head_or, last_or, next_of, prev_of, Follows}
use Rattle.kc_links.specs.Ring.{walk, Link, IsRing}
use Rattle.kc_lists.proofs.Members.{member-head, member-tail, member-cases, member-append, member-append_left, member-append_right}
use Rattle.kc_lists.proofs.Members.{not_member-parts, not_member-append, member-cut, Distinct-cut, Distinct-insert, without-cut, right_after-cut}
use Rattle.kc_lists.proofs.Members.{next_of-cut, prev_of-cut, list-ended, last_or-push, member-last_or, below_bound}
use Rattle.kc_lists.proofs.Shared.{some_length, Distinct-front}

-- a path by a relation is one by another that is weaker on the numbers of the path
pub Follows-mono : (R S : ℕ → ℕ → Type 0) (x : ℕ) (xs : List ℕ) (e : ℕ)
    → ((y z : ℕ) → member y (x ∷ xs) ≡ true → member z (xs ++ e ∷ []) ≡ true → R y z → S y z) → Follows R x (xs ++ e ∷ []) → Follows S x (xs ++ e ∷ [])
Follows-mono R S x [] e f h = (f x e (member-head x []) (member-head e []) h.0, tt)
Follows-mono R S x (y ∷ ys) e f h = (
  f x y (member-head x (y ∷ ys)) (member-head y (ys ++ e ∷ [])) h.0,
  Follows-mono R S y ys e (λ u v p q r. f u v (member-tail u x (y ∷ ys) p) (member-tail v y (ys ++ e ∷ []) q) r) h.1,
)

-- of a path through p, the part up to p is a path
pub Follows-left : (R : ℕ → ℕ → Type 0) (x : ℕ) (l : List ℕ) (p : ℕ) (r : List ℕ) → Follows R x (l ++ p ∷ r) → Follows R x (l ++ p ∷ [])
Follows-left R x [] p r h = (h.0, tt)
Follows-left R x (y ∷ l) p r h = (h.0, Follows-left R y l p r h.1)

-- of a path through p, the part from p on is a path
pub Follows-right : (R : ℕ → ℕ → Type 0) (x : ℕ) (l : List ℕ) (p : ℕ) (r : List ℕ) → Follows R x (l ++ p ∷ r) → Follows R p r
Follows-right R x [] p r h = h.1
Follows-right R x (y ∷ l) p r h = Follows-right R y l p r h.1

-- a path up to p and a path from p on are one path
pub Follows-join : (R : ℕ → ℕ → Type 0) (x : ℕ) (l : List ℕ) (p : ℕ) (r : List ℕ) → Follows R x (l ++ p ∷ []) → Follows R p r → Follows R x (l ++ p ∷ r)
Follows-join R x [] p r h k = (h.0, k)
Follows-join R x (y ∷ l) p r h k = (h.0, Follows-join R y l p r h.1 k)

-- a walk along the links of a path gives the numbers on it
pub walk-path : (next prev : List ℕ) (a : ℕ) (xs : List ℕ) (s : ℕ) → Follows (Link next prev) a (xs ++ s ∷ []) → walk (length xs) (get_or next a 0) next ≡ xs
walk-path next prev a [] s h = refl
walk-path next prev a (x ∷ xs) s h =
    ap (λ z. z ∷ walk (length xs) (get_or next z 0) next) h.0.0 ∙ ap (λ zs. x ∷ zs) (walk-path next prev x xs s h.1)

-- a walk of n steps gives n numbers
pub length-walk : (n at : ℕ) (next : List ℕ) → length (walk n at next) ≡ n
length-walk zero at next = refl
length-walk (suc n) at next = ap suc (length-walk n (get_or next at 0) next)

-- a member and what is no member differ
member-apart : (x y : ℕ) (xs : List ℕ) → member x xs ≡ true → member y xs ≡ false → x ≢ y
member-apart x y xs m n e = true≢false (sym m ∙ (ap (λ z. member z xs) e ∙ n))

-- an update of one place leaves the links between others
pub Link-kept : (next prev : List ℕ) (a v b w y z : ℕ) → y ≢ a → z ≢ b → Link next prev y z → Link (set next a v) (set prev b w) y z
Link-kept next prev a v b w y z n m h = (get_or-set_other next a y v 0 n ∙ h.0, get_or-set_other prev b z w 0 m ∙ h.1)

-- the two writes of an insert leave the links between others
Link-twice : (next prev : List ℕ) (p x q y z : ℕ) → y ≢ p → y ≢ x → z ≢ x → z ≢ q → Link next prev y z
    → Link (set (set next p x) x q) (set (set prev x p) q x) y z
Link-twice next prev p x q y z n m m' n' h = (
  get_or-set_other (set next p x) x y q 0 m ∙ (get_or-set_other next p y x 0 n ∙ h.0),
  get_or-set_other (set prev x p) q z x 0 n'
      ∙ (get_or-set_other prev x z p 0 m' ∙ h.1),
)

-- the ring cut at p: a path from the start up to p, and one from p back to the start
pub path_at : (next prev : List ℕ) (s : ℕ) (l : List ℕ) (p : ℕ) (r : List ℕ) → Follows (Link next prev) s ((l ++ p ∷ r) ++ s ∷ [])
    → Follows (Link next prev) s (l ++ p ∷ []) × Follows (Link next prev) p (r ++ s ∷ [])
path_at next prev s l p r h =
    let h' : Follows (Link next prev) s (l ++ p ∷ (r ++ s ∷ [])) = subst (Follows (Link next prev) s) (append_assoc l (p ∷ r) (s ∷ [])) h in
    (Follows-left (Link next prev) s l p (r ++ s ∷ []) h', Follows-right (Link next prev) s l p (r ++ s ∷ []) h')

-- a path from the start up to p and one from p back to the start are the ring
pub path_from : (next prev : List ℕ) (s : ℕ) (l : List ℕ) (p : ℕ) (r : List ℕ) → Follows (Link next prev) s (l ++ p ∷ [])
    → Follows (Link next prev) p (r ++ s ∷ []) → Follows (Link next prev) s ((l ++ p ∷ r) ++ s ∷ [])
path_from next prev s l p r h k = subst (Follows (Link next prev) s) (sym (append_assoc l (p ∷ r) (s ∷ []))) (Follows-join (Link next prev) s l p
    (r ++ s ∷ []) h k)

-- what stands behind a number in a distinct list is distinct
Distinct-right : (l : List ℕ) (p : ℕ) (r : List ℕ) → Distinct (l ++ p ∷ r) → Distinct r
Distinct-right [] p r d = d.1
Distinct-right (y ∷ l) p r d = Distinct-right l p r d.1

-- what stands before p and what stands behind it differ in a distinct list
apart_parts : (l : List ℕ) (p : ℕ) (r : List ℕ) → Distinct (l ++ p ∷ r) → (z q : ℕ) → member z l ≡ true → member q r ≡ true → z ≢ q
apart_parts [] p r d z q m n = absurd (false≢true m)
apart_parts (y ∷ l) p r d z q m n =
    elim (member-cases z y l m) [
      | inl e ↦ (λ w. true≢false (sym (member-append_right q l (p ∷ r) (member-tail q p r n)) ∙ (ap (λ u. member u (l ++ p ∷ r)) (sym w ∙ e) ∙ d.0)))
      | inr k ↦ apart_parts l p r d.1 z q k n
    ]

-- what follows p is the end, or in the rest
after_in : (next prev : List ℕ) (s p : ℕ) (r : List ℕ) → Follows (Link next prev) p (r ++ s ∷ []) → (get_or next p 0 ≡ s) ⊎ (member (get_or next p 0) r ≡ true)
after_in next prev s p [] h = inl h.0.0
after_in next prev s p (y ∷ r) h = inr (ap (λ z. member z (y ∷ r)) h.0.0 ∙ member-head y r)

-- what follows p is the first of the rest, or the end
pub after_is : (next prev : List ℕ) (s p : ℕ) (r : List ℕ) → Follows (Link next prev) p (r ++ s ∷ []) → get_or next p 0 ≡ head_or s r
after_is next prev s p [] h = h.0.0
after_is next prev s p (y ∷ r) h = h.0.0

-- what stands before p is the last of what leads up to it, or the start
pub before_is : (next prev : List ℕ) (a : ℕ) (l : List ℕ) (p : ℕ) → Follows (Link next prev) a (l ++ p ∷ []) → get_or prev p 0 ≡ last_or a l
before_is next prev a [] p h = h.0.1
before_is next prev a (y ∷ l) p h = before_is next prev y l p h.1

-- what stands behind the first of a distinct list differs from it, and so does a bound of the list
behind_first-apart : (y s v q : ℕ) (r : List ℕ) → member y r ≡ false → y < s → q ≡ y → member v (r ++ s ∷ []) ≡ true → v ≢ q
behind_first-apart y s v q r out low is m = elim (member-append v r (s ∷ []) m) [
  | inl in-r ↦ (λ z. member-apart v y r in-r out (z ∙ is))
  | inr in-s ↦ elim (member-cases v s [] in-s) [ inl is-s ↦ omega arith | inr none ↦ absurd (false≢true none) ]
]

-- after an insert, the ring goes from x on through what stood behind p
new_tail : (next prev : List ℕ) (s x p q : ℕ) (r : List ℕ) → Follows (Link next prev) p (r ++ s ∷ []) → q ≡ get_or next p 0 → s ≢ x → Distinct r
    → ((y : ℕ) → member y r ≡ true → (y ≢ p) × (y ≢ x) × (y < s)) → Link (set (set next p x) x q) (set (set prev x p) q x) x q
    → Follows (Link (set (set next p x) x q) (set (set prev x p) q x)) x (r ++ s ∷ [])
new_tail next prev s x p q [] h e n d f k = (subst (λ z. Link (set (set next p x) x q) (set (set prev x p) q x) x z) (e ∙ h.0.0) k, tt)
new_tail next prev s x p q (y ∷ r) h e n d f k =
    let is : q ≡ y = e ∙ h.0.0 in (
      subst (λ z. Link (set (set next p x) x q) (set (set prev x p) q x) x z) is k,
      Follows-mono (Link next prev) (Link (set (set next p x) x q) (set (set prev x p) q x)) y r s
          (λ u v u-in v-in w.
          let v-x : v ≢ x = elim (member-append v r (s ∷ []) v-in) [
            | inl in-r ↦ (f v (member-tail v y r in-r)).1
            | inr in-s ↦
                elim (member-cases v s [] in-s) [ inl is-s ↦ (λ z. n (sym is-s ∙ z)) | inr none ↦ absurd (false≢true none) ]
          ] in
          Link-twice next prev p x q u v (f u u-in).0 (f u u-in).1 v-x (behind_first-apart y s v q r d.0 (f y (member-head y r)).2 is v-in) w)
          h.1,
    )

-- the ring with x between p and q
pub ring_insert : (next prev : List ℕ) (s x p q : ℕ) (l r : List ℕ) → IsRing next prev s (l ++ p ∷ r) → q ≡ get_or next p 0 → x < s
    → member x (l ++ p ∷ r) ≡ false → IsRing (set (set next p x) x q) (set (set prev x p) q x) s (l ++ p ∷ x ∷ r)
ring_insert next prev s x p q l r h e below out =
    let (left, right) = path_at next prev s l p r h.path in
    let (p-l, p-r, rest) = Distinct-cut p l r h.distinct in
    let (x-l, x-pr) = not_member-append x l (p ∷ r) out in
    let (x-p, x-r) = not_member-parts x p r x-pr in
    let p-below : p < s = h.within p (member-append_right p l (p ∷ r) (member-head p r)) in
    let p-x : p ≢ x = λ z. x-p (sym z) in
    let left-below : (y : ℕ) → member y l ≡ true → y < s = λ y m. h.within y (member-append_left y l (p ∷ r) m) in
    let right-below : (y : ℕ) → member y r ≡ true → y < s = λ y m. h.within y (member-append_right y l (p ∷ r) (member-tail y p r m)) in
    let apart-list : Distinct (l ++ p ∷ x ∷ r) =
    subst Distinct (append_assoc l (p ∷ []) (x ∷ r))
    (Distinct-insert x (l ++ p ∷ []) r (subst Distinct (sym (append_assoc l (p ∷ []) r)) h.distinct) (ap (member x) (append_assoc l (p ∷ []) r) ∙ out)) in
    let to-x : q ≢ x → Link (set (set next p x) x q) (set (set prev x p) q x) p x = λ q-x. (
      get_or-set_other (set next p x) x p q 0 p-x ∙ get_or-set_same next p x 0 (omega (arith, h.next_length)),
      get_or-set_other (set prev x p) q x x 0 (λ z. q-x (sym z)) ∙ get_or-set_same prev x p 0 (omega (arith, h.prev_length)),
    ) in
    let from-x : q ≤ s → Link (set (set next p x) x q) (set (set prev x p) q x) x q = λ q-s. (
      get_or-set_same (set next p x) x q 0 (omega (arith, length-set next p x, h.next_length)),
      get_or-set_same (set prev x p) q x 0 (omega (arith, length-set prev x p, h.prev_length)),
    ) in
    let y-left : (y : ℕ) → member y (s ∷ l) ≡ true → (y ≢ p) × (y ≢ x) = λ y m. elim (member-cases y s l m) [
      | inl at-s ↦ (omega arith, omega arith)
      | inr in-l ↦ (member-apart y p l in-l p-l, member-apart y x l in-l x-l)
    ] in
    let z-left : (z : ℕ) → member z (l ++ p ∷ []) ≡ true → (z ≢ x) × (z < s) × ((member z l ≡ true) ⊎ (z ≡ p)) = λ z m. elim (member-append z l (p ∷ []) m) [
      | inl in-l ↦ (member-apart z x l in-l x-l, left-below z in-l, inl in-l)
      | inr in-p ↦ elim (member-cases z p [] in-p) [ inl is-p ↦ (λ w. x-p (sym w ∙ is-p), omega arith, inr is-p) | inr none ↦ absurd (false≢true none) ]
    ] in
    let left-with : ((z : ℕ) → member z (l ++ p ∷ []) ≡ true → z ≢ q) → Follows (Link (set (set next p x) x q) (set (set prev x p) q x)) s (l ++ p ∷ []) =
    λ z-q. Follows-mono (Link next prev) (Link (set (set next p x) x q) (set (set prev x p) q x)) s l p
    (λ y z y-in z-in k. Link-twice next prev p x q y z (y-left y y-in).0 (y-left y y-in).1 (z-left z z-in).0 (z-q z z-in) k) left in
    let right-facts : (y : ℕ) → member y r ≡ true → (y ≢ p) × (y ≢ x) × (y < s) =
    λ y m. (member-apart y p r m p-r, member-apart y x r m x-r, right-below y m) in
    let q-in : (q ≡ s) ⊎ (member q r ≡ true) = elim (after_in next prev s p r right) [ inl z ↦ inl (e ∙ z) | inr m ↦ inr (ap (λ w. member w r) e ∙ m) ] in
    let q-x : q ≢ x = elim q-in [ inl z ↦ omega arith | inr m ↦ member-apart q x r m x-r ] in
    let q-s : q ≤ s = elim q-in [ inl z ↦ omega arith | inr m ↦ omega (arith, right-below q m) ] in
    let z-q : (z : ℕ) → member z (l ++ p ∷ []) ≡ true → z ≢ q = λ z m. elim q-in [
      | inl is-s ↦ (let low : z < s = (z-left z m).1 in omega arith)
      | inr in-r ↦ elim (z-left z m).2 [
        | inl in-l ↦ (λ w. apart_parts l p r h.distinct z q in-l in-r w)
        | inr is-p ↦
            (λ w. member-apart q p r in-r p-r (sym w ∙ is-p))
      ]
    ] in
    record {
      next_length = length-set (set next p x) x q ∙ (length-set next p x ∙ h.next_length);
      prev_length = length-set (set prev x p) q x ∙ (length-set prev x p ∙ h.prev_length);
      small = h.small;
      distinct = apart-list;
      within = λ y m. elim (member-append y l (p ∷ x ∷ r) m) [
        | inl in-l ↦ left-below y in-l
        | inr in-r ↦ elim (member-cases y p (x ∷ r) in-r)
            [ inl is-p ↦ omega arith | inr in-x ↦ elim (member-cases y x r in-x) [ inl is-x ↦ omega arith | inr in-r' ↦ right-below y in-r' ] ]
      ];
      path = path_from (set (set next p x) x q) (set (set prev x p) q x) s l p (x ∷ r) (left-with z-q)
          (to-x q-x, new_tail next prev s x p q r right e (omega arith) (Distinct-right l p r h.distinct) right-facts (from-x q-s));
    }

-- after a removal of x, the ring goes from p on through what stood behind x
joined_tail : (next prev : List ℕ) (s x p q : ℕ) (r : List ℕ) → Follows (Link next prev) x (r ++ s ∷ []) → q ≡ get_or next x 0 → Distinct r
    → ((y : ℕ) → member y r ≡ true → (y ≢ p) × (y < s)) → Link (set next p q) (set prev q p) p q → Follows (Link (set next p q) (set prev q p)) p (r ++ s ∷ [])
joined_tail next prev s x p q [] h e d f k = (subst (λ z. Link (set next p q) (set prev q p) p z) (e ∙ h.0.0) k, tt)
joined_tail next prev s x p q (y ∷ r) h e d f k =
    let is : q ≡ y = e ∙ h.0.0 in (
      subst (λ z. Link (set next p q) (set prev q p) p z) is k,
      Follows-mono (Link next prev) (Link (set next p q) (set prev q p)) y r s
          (λ u v u-in v-in w.
          Link-kept next prev p q q p u v (f u u-in).0 (behind_first-apart y s v q r d.0 (f y (member-head y r)).1 is v-in) w)
          h.1,
    )

-- after a removal of x, the way up to p and the way from p on are one ring
ring_path : (next prev : List ℕ) (s x p q : ℕ) (l r : List ℕ) → p ≡ last_or s l → ((z : ℕ) → member z l ≡ true → (z < s) × (z ≢ q)) → Distinct l
    → Follows (Link next prev) s (l ++ x ∷ []) → Follows (Link (set next p q) (set prev q p)) p (r ++ s ∷ [])
    → Follows (Link (set next p q) (set prev q p)) s ((l ++ r) ++ s ∷ [])
ring_path next prev s x p q [] r e f d h k = subst (λ z. Follows (Link (set next p q) (set prev q p)) z (r ++ s ∷ [])) e k
ring_path next prev s x p q (y ∷ ys) r e f d h k =
    let w = list-ended y ys in
    let last : p ≡ w.last = e ∙ (ap (last_or s) w.is ∙ last_or-push s w.front w.last) in
    let split : y ∷ ys ≡ w.front ++ p ∷ [] = w.is ∙ ap (λ z. w.front ++ z ∷ []) (sym last) in
    let h' : Follows (Link next prev) s (w.front ++ p ∷ (x ∷ [])) =
    subst (Follows (Link next prev) s) (ap (λ zs. zs ++ x ∷ []) split ∙ append_assoc w.front (p ∷ []) (x ∷ [])) h in
    let left : Follows (Link next prev) s (w.front ++ p ∷ []) = Follows-left (Link next prev) s w.front p (x ∷ []) h' in
    let d' : Distinct (w.front ++ p ∷ []) = subst Distinct split d in
    let f' : (z : ℕ) → member z (w.front ++ p ∷ []) ≡ true → (z < s) × (z ≢ q) = λ z m. f z (ap (member z) split ∙ m) in
    let p-s : p < s = (f' p (member-append_right p w.front (p ∷ []) (member-head p []))).0 in
    let new : Follows (Link (set next p q) (set prev q p)) s (w.front ++ p ∷ []) =
    Follows-mono (Link next prev) (Link (set next p q) (set prev q p)) s w.front p (λ u v u-in v-in z.
    let u-p : u ≢ p =
    elim (member-cases u s w.front u-in) [ inl is-s ↦ omega arith | inr in-f ↦ member-apart u p w.front in-f (Distinct-cut p w.front [] d').0 ] in
    Link-kept next prev p q q p u v u-p (f' v v-in).1 z) left in
    subst (λ zs. Follows (Link (set next p q) (set prev q p)) s (zs ++ s ∷ [])) (sym (append_assoc w.front (p ∷ []) r) ∙ ap (λ zs. zs ++ r) (sym split))
    (path_from (set next p q) (set prev q p) s w.front p r new k)

-- the ring without x
pub ring_remove : (next prev : List ℕ) (s x p q : ℕ) (l r : List ℕ) → IsRing next prev s (l ++ x ∷ r) → p ≡ get_or prev x 0 → q ≡ get_or next x 0
    → IsRing (set next p q) (set prev q p) s (l ++ r) × (p ≤ s) × (q ≤ s)
ring_remove next prev s x p q l r h p-is q-is =
    let (left, right) = path_at next prev s l x r h.path in
    let (x-l, x-r, rest) = Distinct-cut x l r h.distinct in
    let left-below : (y : ℕ) → member y l ≡ true → y < s = λ y m. h.within y (member-append_left y l (x ∷ r) m) in
    let right-below : (y : ℕ) → member y r ≡ true → y < s = λ y m. h.within y (member-append_right y l (x ∷ r) (member-tail y x r m)) in
    let p-last : p ≡ last_or s l = p-is ∙ before_is next prev s l x left in
    let p-in : (p ≡ s) ⊎ (member p l ≡ true) =
    elim (member-cases p s l (ap (λ z. member z (s ∷ l)) p-last ∙ member-last_or s l)) [ inl z ↦ inl z | inr m ↦ inr m ] in
    let q-in : (q ≡ s) ⊎ (member q r ≡ true) = elim (after_in next prev s x r right) [ inl z ↦ inl (q-is ∙ z) | inr m ↦ inr (ap (λ w. member w r) q-is ∙ m) ] in
    let p-s : p ≤ s = elim p-in [ inl z ↦ omega arith | inr m ↦ omega (arith, left-below p m) ] in
    let q-s : q ≤ s = elim q-in [ inl z ↦ omega arith | inr m ↦ omega (arith, right-below q m) ] in
    let right-facts : (y : ℕ) → member y r ≡ true → (y ≢ p) × (y < s) =
    λ y m. (
      elim p-in [ inl z ↦ (let low : y < s = right-below y m in omega arith) | inr k ↦ (λ w. apart_parts l x r h.distinct p y k m (sym w)) ],
      right-below y m,
    ) in
    let left-facts : (z : ℕ) → member z l ≡ true → (z < s) × (z ≢ q) =
    λ z m. (left-below z m, elim q-in [ inl w ↦ (let low : z < s = left-below z m in omega arith) | inr k ↦ apart_parts l x r h.distinct z q m k ]) in
    let link : Link (set next p q) (set prev q p) p q =
    (get_or-set_same next p q 0 (omega (arith, h.next_length)), get_or-set_same prev q p 0 (omega (arith, h.prev_length))) in (
      record {
        next_length = length-set next p q ∙ h.next_length;
        prev_length = length-set prev q p ∙ h.prev_length;
        small = h.small;
        distinct = rest;
        within = λ y m. elim (member-append y l r m) [ inl in-l ↦ left-below y in-l | inr in-r ↦ right-below y in-r ];
        path = ring_path next prev s x p q l r p-last left-facts (Distinct-front l (x ∷ r) h.distinct) left
            (joined_tail next prev s x p q r right q-is (Distinct-right l x r h.distinct) right-facts link);
      },
      p-s,
      q-s,
    )

-- a walk of as many steps as the list is long gives the list of the ring
pub ring-walked : (next prev : List ℕ) (s n : ℕ) (xs : List ℕ) → IsRing next prev s xs → n ≡ length xs → walk n (get_or next s 0) next ≡ xs
ring-walked next prev s n xs h e = ap (λ k. walk k (get_or next s 0) next) e ∙ walk-path next prev s xs s h.path

-- what next holds at the size is the first of the list, or the size where there is none
pub first_read : (next prev : List ℕ) (s : ℕ) (xs : List ℕ) → IsRing next prev s xs → get_or next s 0 ≡ head_or s xs
first_read next prev s [] h = h.path.0.0
first_read next prev s (x ∷ xs) h = h.path.0.0

-- a ring, and its list cut at the member `x`
pub record CutRing (next prev : List ℕ) (s x : ℕ) (xs : List ℕ) : Type 0 where
  pub front : List ℕ
  pub back : List ℕ
  pub is : xs ≡ front ++ x ∷ back
  pub ring : IsRing next prev s (front ++ x ∷ back)
  pub paths : Follows (Link next prev) s (front ++ x ∷ []) × Follows (Link next prev) x (back ++ s ∷ [])
  pub apart : (member x front ≡ false) × (member x back ≡ false) × Distinct (front ++ back)

-- a ring can be cut at each member of its list
ring-cut : (next prev : List ℕ) (s x : ℕ) (xs : List ℕ) → IsRing next prev s xs → member x xs ≡ true → CutRing next prev s x xs
ring-cut next prev s x xs h m =
    let c = member-cut x xs m in
    let ring : IsRing next prev s (c.front ++ x ∷ c.back) = subst (IsRing next prev s) c.is h in
    record {
      front = c.front;
      back = c.back;
      is = c.is;
      ring = ring;
      paths = path_at next prev s c.front x c.back ring.path;
      apart = Distinct-cut x c.front c.back ring.distinct;
    }

-- what next holds at a member is what stands right after it
pub next_read : (next prev : List ℕ) (s x : ℕ) (xs : List ℕ) → IsRing next prev s xs → member x xs ≡ true → get_or next x 0 ≡ next_of s x xs
next_read next prev s x xs h m =
    let c = ring-cut next prev s x xs h m in
    after_is next prev s x c.back c.paths.1 ∙ (sym (next_of-cut s x c.front c.back c.apart.0) ∙ ap (next_of s x) (sym c.is))

-- what prev holds at a member is what stands right before it
pub prev_read : (next prev : List ℕ) (s x : ℕ) (xs : List ℕ) → IsRing next prev s xs → member x xs ≡ true → get_or prev x 0 ≡ prev_of s x xs
prev_read next prev s x xs h m =
    let c = ring-cut next prev s x xs h m in
    before_is next prev s c.front x c.paths.0 ∙ (sym (prev_of-cut s x c.front c.back c.apart.0) ∙ ap (prev_of s x) (sym c.is))

-- after the writes of a removal: a ring, whose list is the one before without x
pub record Removed (next prev : List ℕ) (s x p q n : ℕ) (xs : List ℕ) : Type 0 where
  pub ring : IsRing (set next p q) (set prev q p) s (walk (n - 1) (get_or (set next p q) s 0) (set next p q))
  pub list : walk (n - 1) (get_or (set next p q) s 0) (set next p q) ≡ without x xs
  pub p_fits : p ≤ s
  pub q_fits : q ≤ s

-- the writes of a removal make a ring of the list without x
pub ring-removed : (next prev : List ℕ) (s x p q n : ℕ) (xs : List ℕ) → IsRing next prev s xs → n ≡ length xs → member x xs ≡ true → p ≡ get_or prev x 0
    → q ≡ get_or next x 0 → Removed next prev s x p q n xs
ring-removed next prev s x p q n xs h e m p-is q-is =
    let c = ring-cut next prev s x xs h m in
    let new = ring_remove next prev s x p q c.front c.back c.ring p-is q-is in
    let size : n - 1 ≡ length (c.front ++ c.back) = omega (arith, ap length c.is, length-append c.front (x ∷ c.back), length-append c.front c.back) in
    let list = ring-walked (set next p q) (set prev q p) s (n - 1) (c.front ++ c.back) new.0 size in
    record {
      ring = subst (IsRing (set next p q) (set prev q p) s) (sym list) new.0;
      list = list ∙ (sym (without-cut x c.front c.back c.apart.0 c.apart.1) ∙ ap (without x) (sym c.is));
      p_fits = new.1;
      q_fits = new.2;
    }

-- after the writes of an insert: a ring, whose list has x right after p
pub record Inserted (next prev : List ℕ) (s x p q n : ℕ) (xs : List ℕ) : Type 0 where
  pub ring : IsRing (set (set next p x) x q) (set (set prev x p) q x) s (walk (n + 1) (get_or (set (set next p x) x q) s 0) (set (set next p x) x q))
  pub list : walk (n + 1) (get_or (set (set next p x) x q) s 0) (set (set next p x) x q) ≡ right_after x p xs
  pub q_fits : q ≤ s

-- the writes of an insert make a ring of the list with x right after p
pub ring-inserted : (next prev : List ℕ) (s x p q n : ℕ) (xs : List ℕ) → IsRing next prev s xs → n ≡ length xs → member p xs ≡ true
    → member x xs ≡ false → x < s
    → q ≡ get_or next p 0 → Inserted next prev s x p q n xs
ring-inserted next prev s x p q n xs h e m out below q-is =
    let c = ring-cut next prev s p xs h m in
    let new = ring_insert next prev s x p q c.front c.back c.ring q-is below (ap (member x) (sym c.is) ∙ out) in
    let size : n + 1 ≡ length (c.front ++ p ∷ x ∷ c.back) =
    omega (arith, ap length c.is, length-append c.front (p ∷ c.back), length-append c.front (p ∷ x ∷ c.back)) in
    let list = ring-walked (set (set next p x) x q) (set (set prev x p) q x) s (n + 1) (c.front ++ p ∷ x ∷ c.back) new size in
    record {
      ring = subst (IsRing (set (set next p x) x q) (set (set prev x p) q x) s) (sym list) new;
      list = list ∙ (sym (right_after-cut x p c.front c.back c.apart.0) ∙ ap (right_after x p) (sym c.is));
      q_fits = elim (after_in next prev s p c.back c.paths.1) [
        | inl z ↦ omega (arith, q-is, z)
        | inr k ↦
            omega (
              arith,
              q-is,
              h.within (get_or next p 0)
                  (ap (member (get_or next p 0)) c.is ∙ member-append_right (get_or next p 0) c.front (p ∷ c.back) (member-tail (get_or next p 0) p c.back k)),
            )
      ];
    }

-- a ring as its list tells it, where `n` is how many numbers the program walks
record RingOf (next prev : List ℕ) (s n : ℕ) (xs : List ℕ) : Type 0 where
  pub ring : IsRing next prev s xs
  pub size : n ≡ length xs
  pub short : n < 2 ^ 31

-- what the program walks tells the ring of its list
ring-of_walk : (next prev : List ℕ) (s n : ℕ) (xs : List ℕ) → IsRing next prev s (walk n (get_or next s 0) next) → walk n (get_or next s 0) next ≡ xs
    → RingOf next prev s n xs
ring-of_walk next prev s n xs h e =
    let ring : IsRing next prev s xs = subst (IsRing next prev s) e h in
    let size : n ≡ length xs = sym (length-walk n (get_or next s 0) next) ∙ ap length e in
    record { ring = ring; size = size; short = omega (arith, below_bound s xs ring.distinct ring.within, ring.small) }

-- what an insert leaves, from the ring as the program walks it; the list is short
pub insert_facts : (next prev : List ℕ) (s x p q n : ℕ) (xs : List ℕ) → IsRing next prev s (walk n (get_or next s 0) next)
    → walk n (get_or next s 0) next ≡ xs → member p xs ≡ true → member x xs ≡ false → x < s → q ≡ get_or next p q
    → Inserted next prev s x p q n xs × (n < 2 ^ 31)
insert_facts next prev s x p q n xs h e m out below q-is =
    let old = ring-of_walk next prev s n xs h e in
    let p-in : p < length next = omega (arith, old.ring.within p m, old.ring.next_length) in
    (ring-inserted next prev s x p q n xs old.ring old.size m out below (get_or_read next p q p-in q-is 0), old.short)

-- what a removal leaves, from the ring as the program walks it; the list was not empty
pub remove_facts : (next prev : List ℕ) (s x p q n : ℕ) (xs : List ℕ) → IsRing next prev s (walk n (get_or next s 0) next)
    → walk n (get_or next s 0) next ≡ xs → member x xs ≡ true → p ≡ get_or prev x p → q ≡ get_or next x q → Removed next prev s x p q n xs × (0 < n)
remove_facts next prev s x p q n xs h e m p-is q-is =
    let old = ring-of_walk next prev s n xs h e in
    let in-next : x < length next = omega (arith, old.ring.within x m, old.ring.next_length) in
    let in-prev : x < length prev = omega (arith, old.ring.within x m, old.ring.prev_length) in (
      ring-removed next prev s x p q n xs old.ring old.size m (get_or_read prev x p in-prev p-is 0) (get_or_read next x q in-next q-is 0),
      omega (arith, old.size, some_length x xs m),
    )

-- the writes of a push make a ring with x at its end
ring_push : (next prev : List ℕ) (s x p : ℕ) (xs : List ℕ) → IsRing next prev s xs → p ≡ get_or prev s 0 → x < s → member x xs ≡ false
    → IsRing (set (set next p x) x s) (set (set prev x p) s x) s (xs ++ x ∷ []) × (p ≤ s)
ring_push next prev s x p [] h e below out =
    let p-s : p ≡ s = e ∙ h.path.0.1 in
    let s-x : s ≢ x = omega arith in
    let p-x : p ≢ x = omega arith in (
      record {
        next_length = length-set (set next p x) x s ∙ (length-set next p x ∙ h.next_length);
        prev_length = length-set (set prev x p) s x ∙ (length-set prev x p ∙ h.prev_length);
        small = h.small;
        distinct = (refl, tt);
        within = λ y m. elim (member-cases y x [] m) [ inl is-x ↦ omega arith | inr none ↦ absurd (false≢true none) ];
        path = (
          (
            ap (λ z. get_or (set (set next p x) x s) z 0) (sym p-s)
                ∙ (get_or-set_other (set next p x) x p s 0 p-x ∙ get_or-set_same next p x 0 (omega (arith, h.next_length))),
            get_or-set_other (set prev x p) s x x 0 (λ z. s-x (sym z)) ∙ (get_or-set_same prev x p 0 (omega (arith, h.prev_length)) ∙ p-s),
          ),
          (
            (
              get_or-set_same (set next p x) x s 0 (omega (arith, length-set next p x, h.next_length)),
              get_or-set_same (set prev x p) s x 0 (omega (arith, length-set prev x p, h.prev_length)),
            ),
            tt,
          ),
        );
      },
      omega arith,
    )
ring_push next prev s x p (y ∷ ys) h e below out =
    let w = list-ended y ys in
    let at-end : Follows (Link next prev) s ((y ∷ ys) ++ s ∷ []) = h.path in
    let is : p ≡ w.last = e ∙ (before_is next prev s (y ∷ ys) s at-end ∙ (ap (last_or s) w.is ∙ last_or-push s w.front w.last)) in
    let split : y ∷ ys ≡ w.front ++ p ∷ [] = w.is ∙ ap (λ z. w.front ++ z ∷ []) (sym is) in
    let h' : IsRing next prev s (w.front ++ p ∷ []) = subst (IsRing next prev s) split h in
    let right = (path_at next prev s w.front p [] h'.path).1 in
    let p-in : p < s = h'.within p (member-append_right p w.front (p ∷ []) (member-head p [])) in
    let new = ring_insert next prev s x p s w.front [] h' (sym (after_is next prev s p [] right)) below (ap (member x) (sym split) ∙ out) in (
      subst (IsRing (set (set next p x) x s) (set (set prev x p) s x) s) (sym (append_assoc w.front (p ∷ []) (x ∷ [])) ∙ ap (λ zs. zs ++ x ∷ []) (sym split))
          new,
      omega arith,
    )

-- after the writes of a push: a ring, whose list has x at its end
pub record Pushed (next prev : List ℕ) (s x p n : ℕ) (xs : List ℕ) : Type 0 where
  pub ring : IsRing (set (set next p x) x s) (set (set prev x p) s x) s (walk (n + 1) (get_or (set (set next p x) x s) s 0) (set (set next p x) x s))
  pub list : walk (n + 1) (get_or (set (set next p x) x s) s 0) (set (set next p x) x s) ≡ xs ++ x ∷ []
  pub p_fits : p ≤ s
  pub short : n < 2 ^ 31

-- what a push leaves, from the ring as the program walks it
pub push_facts : (next prev : List ℕ) (s x p n : ℕ) (xs : List ℕ) → IsRing next prev s (walk n (get_or next s 0) next) → walk n (get_or next s 0) next ≡ xs
    → member x xs ≡ false → x < s → p ≡ get_or prev s p → Pushed next prev s x p n xs
push_facts next prev s x p n xs h e out below p-is =
    let old = ring-of_walk next prev s n xs h e in
    let s-in : s < length prev = omega (arith, old.ring.prev_length) in
    let new = ring_push next prev s x p xs old.ring (get_or_read prev s p s-in p-is 0) below out in
    let long : n + 1 ≡ length (xs ++ x ∷ []) = omega (arith, old.size, length-append xs (x ∷ [])) in
    let list = ring-walked (set (set next p x) x s) (set (set prev x p) s x) s (n + 1) (xs ++ x ∷ []) new.0 long in
    record {
      ring = subst (IsRing (set (set next p x) x s) (set (set prev x p) s x) s) (sym list) new.0;
      list = list;
      p_fits = new.1;
      short = old.short;
    }

-- where each place holds the size, the ring has no number
pub ring_empty : (next prev : List ℕ) (s n : ℕ) → n ≡ s + 1 → s < 2 ^ 31 → next ≡ replicate n s → prev ≡ replicate n s → IsRing next prev s []
ring_empty next prev s n e small a b =
    let at : get_or (replicate n s) s 0 ≡ s = get_or-replicate n s s 0 (omega arith) in
    record {
      next_length = ap length a ∙ (length-replicate n s ∙ e);
      prev_length = ap length b ∙ (length-replicate n s ∙ e);
      small = small;
      distinct = tt;
      within = λ x m. absurd (false≢true m);
      path = ((ap (λ zs. get_or zs s 0) a ∙ at, ap (λ zs. get_or zs s 0) b ∙ at), tt);
    }
