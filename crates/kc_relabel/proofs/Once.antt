-- A schedule names each place once, and only places of the list.
use Rattle.std.proofs.Common.{◌≡◌, ◌≢◌, ℕ, suc, zero, ◌+◌, ◌<◌, Bool, true, false, cond, List, [], ◌∷◌, ◌++◌, length, get_or, ltb, refl, sym, ◌∙◌, ap}
use Rattle.std.proofs.Common.{subst, inl, inr, arith}
use Rattle.std.proofs.lemmas.Bool.{lt-ltb, le-ltb, cases_lt, true≢false, false≢true, false_from_ne_true}
use Rattle.std.proofs.lemmas.List.{append-nil, append_assoc}
use Rattle.kc_lists.specs.Lists.{member, Distinct}
use Rattle.kc_lists.proofs.Members.{member-head, member-tail, member-cases, member-append, append-not_member, Distinct-insert}
use Rattle.kc_relabel.specs.Labels.{ups, downs, schedule_of, places}
use Rattle.kc_relabel.proofs.Rising.{Writes, later, ups-suc, downs-suc, later-append}
use Rattle.kc_lists.proofs.Counting.{member-get_or}

-- the places of two lists of writes joined are the places of both joined
pub places-append : (ws vs : Writes) → places (ws ++ vs) ≡ places ws ++ places vs
places-append [] vs = refl
places-append (w ∷ ws) vs = ap (λ ps. w.0 ∷ ps) (places-append ws vs)

-- a place of writes moved on by 1 is 1 more than a place of the writes
later-places : (p : ℕ) (ws : Writes) → member p (places (later ws)) ≡ true → (q : ℕ) × (p ≡ suc q) × (member q (places ws) ≡ true)
later-places p [] h = absurd (false≢true h)
later-places p (w ∷ ws) h =
    elim (member-cases p (suc w.0) (places (later ws)) h) [
      | inl e ↦ (w.0, e, member-head w.0 (places ws))
      | inr m ↦ let k = later-places p ws m in (k.0, k.1, member-tail k.0 w.0 (places ws) k.2)
    ]

-- writes moved on by 1 do not name place 0
not_zero : (ws : Writes) → member 0 (places (later ws)) ≡ false
not_zero ws = false_from_ne_true (member 0 (places (later ws))) (λ m. let k = later-places 0 ws m in absurd (let e : 0 ≡ suc k.0 = k.1 in omega arith))

-- writes that name distinct places still do when moved on by 1
later-distinct : (ws : Writes) → Distinct (places ws) → Distinct (places (later ws))
later-distinct [] d = tt
later-distinct (w ∷ ws) d = (
  false_from_ne_true (member (suc w.0) (places (later ws))) (λ m. let k = later-places (suc w.0) ws m in let e : w.0 ≡ k.0 =
      (let s : suc w.0 ≡ suc k.0 = k.1 in omega arith) in true≢false (sym k.2 ∙ (ap (λ q. member q (places ws)) (sym e) ∙ d.0))),
  later-distinct ws d.1,
)

-- the schedule of lists with one more label in front: the writes moved on by 1, and one to place 0
pub schedule-cons : (a b : ℕ) (os ns : List ℕ)
    → schedule_of (a ∷ os) (b ∷ ns) ≡ (later (ups 0 os ns) ++ cond (ltb a b) ((0, b) ∷ []) []) ++ (cond (ltb b a) ((0, b) ∷ []) [] ++ later (downs 0 os ns))
schedule-cons a b os ns = ap (λ us. (us ++ cond (ltb a b) ((0, b) ∷ []) []) ++ (cond (ltb b a) ((0, b) ∷ []) [] ++ downs 1 os ns)) (ups-suc 0 os ns)
    ∙ ap (λ ds. (later (ups 0 os ns) ++ cond (ltb a b) ((0, b) ∷ []) []) ++ (cond (ltb b a) ((0, b) ∷ []) [] ++ ds)) (downs-suc 0 os ns)

-- two lists of writes that together name distinct places still do when moved on by 1
both-later : (us ds : Writes) → Distinct (places (us ++ ds)) → Distinct (places (later us) ++ places (later ds))
both-later us ds d = subst Distinct (ap places (later-append us ds) ∙ places-append (later us) (later ds)) (later-distinct (us ++ ds) d)

-- two lists of writes that together name distinct places still do when moved on, with place 0 between
with_zero : (us ds : Writes) (b : ℕ) → Distinct (places (us ++ ds)) → Distinct (places (later us) ++ 0 ∷ places (later ds))
with_zero us ds b d = Distinct-insert 0 (places (later us)) (places (later ds)) (both-later us ds d)
    (append-not_member 0 (places (later us)) (places (later ds)) (not_zero us) (not_zero ds))

-- the schedule names each place once
pub schedule-once : (os ns : List ℕ) → length os ≡ length ns → Distinct (places (schedule_of os ns))
schedule-once [] ns e = tt
schedule-once (a ∷ os) [] e = tt
schedule-once (a ∷ os) (b ∷ ns) e =
    let us = ups 0 os ns in
    let ds = downs 0 os ns in
    let d : Distinct (places (ups 0 os ns ++ downs 0 os ns)) = schedule-once os ns (omega arith) in
    rw (schedule-cons a b os ns) (elim (cases_lt a b) [
      | inl lt ↦
          let t : ltb a b ≡ true = lt-ltb a b lt in let t' : ltb b a ≡ false = le-ltb b a (omega arith) in
          rw (t, t') (subst Distinct (sym
          (places-append (later us ++ (0, b) ∷ []) (later ds)
          ∙ (ap (λ ps. ps ++ places (later ds)) (places-append (later us) ((0, b) ∷ []))
          ∙ append_assoc (places (later us)) (0 ∷ []) (places (later ds))))) (with_zero us ds b d))
      | inr ge ↦
          let t : ltb a b ≡ false = le-ltb a b ge in
          rw t (elim (ltb b a) as (λ t'. Distinct (places ((later us ++ []) ++ (cond t' ((0, b) ∷ []) [] ++ later ds)))) [
            | true ↦ rw (append-nil (later us)) (subst Distinct (sym (places-append (later us) ((0, b) ∷ later ds))) (with_zero us ds b d))
            | false ↦ rw (append-nil (later us)) (subst Distinct (sym (places-append (later us) (later ds))) (both-later us ds d))
          ])
    ])

-- the place of one write is below where the list ends
one_below : (i n b : ℕ) (t : Bool) (p : ℕ) → member p (places (cond t ((i, b) ∷ []) [])) ≡ true → p < i + suc n
one_below i n b true p m = elim (member-cases p i [] m) [ inl e ↦ omega arith | inr k ↦ absurd (false≢true k) ]
one_below i n b false p m = absurd (false≢true m)

-- the first loop names places within the list alone
pub ups-below : (i : ℕ) (os ns : List ℕ) (p : ℕ) → member p (places (ups i os ns)) ≡ true → p < i + length os
ups-below i [] ns p m = absurd (false≢true m)
ups-below i (a ∷ os) [] p m = absurd (false≢true m)
ups-below i (a ∷ os) (b ∷ ns) p m =
    elim (member-append p (places (ups (suc i) os ns)) (places (cond (ltb a b) ((i, b) ∷ []) []))
    (ap (member p) (sym (places-append (ups (suc i) os ns) (cond (ltb a b) ((i, b) ∷ []) []))) ∙ m)) [
      | inl k ↦ omega (arith, ups-below (suc i) os ns p k)
      | inr k ↦ one_below i (length os) b (ltb a b) p k
    ]

-- the second loop names places within the list alone
pub downs-below : (i : ℕ) (os ns : List ℕ) (p : ℕ) → member p (places (downs i os ns)) ≡ true → p < i + length os
downs-below i [] ns p m = absurd (false≢true m)
downs-below i (a ∷ os) [] p m = absurd (false≢true m)
downs-below i (a ∷ os) (b ∷ ns) p m =
    elim (member-append p (places (cond (ltb b a) ((i, b) ∷ []) [])) (places (downs (suc i) os ns))
    (ap (member p) (sym (places-append (cond (ltb b a) ((i, b) ∷ []) []) (downs (suc i) os ns))) ∙ m)) [
      | inl k ↦ one_below i (length os) b (ltb b a) p k
      | inr k ↦ omega (arith, downs-below (suc i) os ns p k)
    ]

-- the schedule names places within the list alone
pub schedule-below : (os ns : List ℕ) (p : ℕ) → member p (places (schedule_of os ns)) ≡ true → p < length os
schedule-below os ns p m =
    elim (member-append p (places (ups 0 os ns)) (places (downs 0 os ns)) (ap (member p) (sym (places-append (ups 0 os ns) (downs 0 os ns))) ∙ m)) [
      | inl k ↦ omega (arith, ups-below 0 os ns p k)
      | inr k ↦ omega (arith, downs-below 0 os ns p k)
    ]

-- in a distinct list, what stands at two places differs
pub Distinct-at : (xs : List ℕ) (i j : ℕ) → Distinct xs → i < j → j < length xs → get_or xs i 0 ≢ get_or xs j 0
Distinct-at [] i j d l k e = absurd (omega arith)
Distinct-at (x ∷ xs) i zero d l k e = absurd (omega arith)
Distinct-at (x ∷ xs) zero (suc j) d l k e = true≢false (sym (member-get_or xs j 0 (omega arith)) ∙ (ap (λ z. member z xs) (sym e) ∙ d.0))
Distinct-at (x ∷ xs) (suc i) (suc j) d l k e = Distinct-at xs i j d.1 (omega arith) (omega arith) e

-- the place named k-th is that of the k-th write
pub place_at : (ws : Writes) (k : ℕ) → get_or (places ws) k 0 ≡ (get_or ws k (0, 0)).0
place_at [] k = refl
place_at (w ∷ ws) zero = refl
place_at (w ∷ ws) (suc k) = place_at ws k

-- there are as many places as writes
pub length-places : (ws : Writes) → length (places ws) ≡ length ws
length-places [] = refl
length-places (w ∷ ws) = ap suc (length-places ws)
