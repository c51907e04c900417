-- The writes of a schedule in turn: a place grows, from the last to the first, and then shrinks, from the first to the last.
use Rattle.std.proofs.Common.{◌≡◌, ◌≢◌, ℕ, suc, zero, ◌+◌, ◌<◌, ◌≤◌, true, false, cond, List, [], ◌∷◌, ◌++◌, length, get_or, set, take, drop}
use Rattle.std.proofs.Common.{ltb, refl, sym, ◌∙◌, ap}
use Rattle.std.proofs.Common.{subst, inl, inr, arith}
use Rattle.std.proofs.lemmas.Bool.{lt-ltb, le-ltb, cases_lt}
use Rattle.std.proofs.lemmas.List.{append-nil, append_assoc, drop_more, drop_all, take_at, length-append, get_or-append-add, get_or-set_other, length-take-le}
use Rattle.kc_lists.specs.Lists.{member}
use Rattle.kc_lists.proofs.Members.{member-head, member-tail}
use Rattle.kc_relabel.specs.Labels.{Ascends, ups, downs, schedule_of, written, places}
use Rattle.kc_relabel.proofs.Rising.{Writes, maxs, written-append, ups-along, downs-yes, downs-no}
use Rattle.kc_relabel.proofs.Once.{downs-below}
use Rattle.kc_relabel.proofs.Differing.{named-grows}

-- the growing writes are those behind a place, and then those before it
ups-split : (k i : ℕ) (os ns : List ℕ) → length os ≡ length ns → i ≤ length os
    → ups k os ns ≡ ups (k + i) (drop i os) (drop i ns) ++ ups k (take i os) (take i ns)
ups-split k zero os ns e l = let s : k ≡ k + 0 = omega arith in
    subst (λ m. ups k os ns ≡ ups m os ns ++ []) s (sym (append-nil (ups k os ns)))
ups-split k (suc i) [] ns e l = absurd (omega arith)
ups-split k (suc i) (a ∷ os) [] e l = absurd (omega arith)
ups-split k (suc i) (a ∷ os) (b ∷ ns) e l =
    let here : Writes = cond (ltb a b) ((k, b) ∷ []) [] in
    let s : suc k + i ≡ k + suc i = omega arith in
    let rest : ups (suc k) os ns ≡ ups (k + suc i) (drop i os) (drop i ns) ++ ups (suc k) (take i os) (take i ns) =
    subst (λ m. ups (suc k) os ns ≡ ups m (drop i os) (drop i ns) ++ ups (suc k) (take i os) (take i ns)) s
    (ups-split (suc k) i os ns (omega arith) (omega arith)) in
    ap (λ us. us ++ here) rest ∙ append_assoc (ups (k + suc i) (drop i os) (drop i ns)) (ups (suc k) (take i os) (take i ns)) here

-- the shrinking writes are those before a place, and then those behind it
downs-split : (k i : ℕ) (os ns : List ℕ) → length os ≡ length ns → i ≤ length os
    → downs k os ns ≡ downs k (take i os) (take i ns) ++ downs (k + i) (drop i os) (drop i ns)
downs-split k zero os ns e l = let s : k ≡ k + 0 = omega arith in ap (λ m. downs m os ns) s
downs-split k (suc i) [] ns e l = absurd (omega arith)
downs-split k (suc i) (a ∷ os) [] e l = absurd (omega arith)
downs-split k (suc i) (a ∷ os) (b ∷ ns) e l =
    let here : Writes = cond (ltb b a) ((k, b) ∷ []) [] in
    let s : suc k + i ≡ k + suc i = omega arith in
    let rest : downs (suc k) os ns ≡ downs (suc k) (take i os) (take i ns) ++ downs (k + suc i) (drop i os) (drop i ns) =
    subst (λ m. downs (suc k) os ns ≡ downs (suc k) (take i os) (take i ns) ++ downs m (drop i os) (drop i ns)) s
    (downs-split (suc k) i os ns (omega arith) (omega arith)) in
    ap (λ ds. here ++ ds) rest ∙ sym (append_assoc here (downs (suc k) (take i os) (take i ns)) (downs (k + suc i) (drop i os) (drop i ns)))

-- a place where the label grows: one write more, behind those of the places behind it
ups-yes : (os ns : List ℕ) (i : ℕ) → i < length os → i < length ns → get_or os i 0 < get_or ns i 0
    → ups i (drop i os) (drop i ns) ≡ ups (i + 1) (drop (i + 1) os) (drop (i + 1) ns) ++ (i, get_or ns i 0) ∷ []
ups-yes os ns i p q lt =
    let t : ltb (get_or os i 0) (get_or ns i 0) ≡ true = lt-ltb (get_or os i 0) (get_or ns i 0) lt in
    let s : suc i ≡ i + 1 = omega arith in
    rw (drop_more os i 0 p, drop_more ns i 0 q) (rw (t, s) refl)

-- a place where it does not: no write more
ups-no : (os ns : List ℕ) (i : ℕ) → i < length os → i < length ns → get_or ns i 0 ≤ get_or os i 0
    → ups i (drop i os) (drop i ns) ≡ ups (i + 1) (drop (i + 1) os) (drop (i + 1) ns)
ups-no os ns i p q le =
    let t : ltb (get_or os i 0) (get_or ns i 0) ≡ false = le-ltb (get_or os i 0) (get_or ns i 0) le in
    let s : suc i ≡ i + 1 = omega arith in
    rw (drop_more os i 0 p, drop_more ns i 0 q) (rw (t, s) (append-nil (ups (i + 1) (drop (i + 1) os) (drop (i + 1) ns))))

-- how many writes are done once the places from the i-th on have had their turn to grow
abbrev pub grown_from : ℕ → List ℕ → List ℕ → ℕ
grown_from i os ns = length (ups i (drop i os) (drop i ns))

-- how many are done once all have had it, and those before the i-th their turn to shrink
abbrev pub shrunk_before : ℕ → List ℕ → List ℕ → ℕ
shrunk_before i os ns = length (ups 0 os ns) + length (downs 0 (take i os) (take i ns))

-- the j-th write of the schedule gives place i its new label
pub record Turn (os ns : List ℕ) (j i : ℕ) : Type 0 where
  pub within : j < length (schedule_of os ns)
  pub write : get_or (schedule_of os ns) j (0, 0) ≡ (i, get_or ns i 0)

-- what stands behind some writes has their number
turn-behind : (ss us rest : Writes) (w : ℕ × ℕ) → ss ≡ us ++ w ∷ rest → (length us < length ss) × (get_or ss (length us) (0, 0) ≡ w)
turn-behind ss us rest w e =
    let s : length us + 0 ≡ length us = omega arith in (
      omega (arith, ap length e, length-append us (w ∷ rest)),
      ap (λ xs. get_or xs (length us) (0, 0)) e ∙ subst (λ j. get_or (us ++ w ∷ rest) j (0, 0) ≡ w) s (get_or-append-add us (w ∷ rest) 0 (0, 0)),
    )

-- a label that no write names stays
written-other : (xs : List ℕ) (ws : Writes) (p : ℕ) → ((q : ℕ) → member q (places ws) ≡ true → p ≢ q) → get_or (written xs ws) p 0 ≡ get_or xs p 0
written-other xs [] p h = refl
written-other xs (w ∷ ws) p h =
    written-other (set xs w.0 w.1) ws p (λ q m. h q (member-tail q w.0 (places ws) m))
    ∙ get_or-set_other xs w.0 p w.1 0 (h w.0 (member-head w.0 (places ws)))

-- the schedule begins with the growing writes from a place on
schedule-grows : (i : ℕ) (os ns : List ℕ) → length os ≡ length ns → i ≤ length os
    → schedule_of os ns ≡ ups i (drop i os) (drop i ns) ++ (ups 0 (take i os) (take i ns) ++ downs 0 os ns)
schedule-grows i os ns e l =
    let s : 0 + i ≡ i = omega arith in
    let cut : ups 0 os ns ≡ ups i (drop i os) (drop i ns) ++ ups 0 (take i os) (take i ns) =
    subst (λ m. ups 0 os ns ≡ ups m (drop i os) (drop i ns) ++ ups 0 (take i os) (take i ns)) s (ups-split 0 i os ns e l) in
    ap (λ us. us ++ downs 0 os ns) cut
    ∙ append_assoc (ups i (drop i os) (drop i ns)) (ups 0 (take i os) (take i ns)) (downs 0 os ns)

-- where the label of place i grows, its write follows those of the places behind it
pub grow-turn : (os ns : List ℕ) (i : ℕ) → length os ≡ length ns → i < length os → get_or os i 0 < get_or ns i 0
    → Turn os ns (grown_from (i + 1) os ns) i × (grown_from i os ns ≡ grown_from (i + 1) os ns + 1)
grow-turn os ns i e l lt =
    let us : Writes = ups (i + 1) (drop (i + 1) os) (drop (i + 1) ns) in
    let rest : Writes = ups 0 (take i os) (take i ns) ++ downs 0 os ns in
    let more = ups-yes os ns i l (omega arith) lt in
    let cut : schedule_of os ns ≡ us ++ (i, get_or ns i 0) ∷ rest = schedule-grows i os ns e (omega arith)
    ∙ (ap (λ xs. xs ++ rest) more ∙ append_assoc us ((i, get_or ns i 0) ∷ []) rest) in
    let at = turn-behind (schedule_of os ns) us rest (i, get_or ns i 0) cut in
    (record { within = at.0; write = at.1 }, ap length more ∙ length-append us ((i, get_or ns i 0) ∷ []))

-- where it does not grow, no write is made
pub grow-none : (os ns : List ℕ) (i : ℕ) → length os ≡ length ns → i < length os → get_or ns i 0 ≤ get_or os i 0
    → grown_from i os ns ≡ grown_from (i + 1) os ns
grow-none os ns i e l le = ap length (ups-no os ns i l (omega arith) le)

-- before its turn to grow, a place has its old label
pub grow-read : (os ns : List ℕ) (i : ℕ) → length os ≡ length ns → i < length os
    → get_or (written os (take (grown_from (i + 1) os ns) (schedule_of os ns))) i 0 ≡ get_or os i 0
grow-read os ns i e l =
    let us : Writes = ups (i + 1) (drop (i + 1) os) (drop (i + 1) ns) in
    let rest : Writes = ups 0 (take (i + 1) os) (take (i + 1) ns) ++ downs 0 os ns in
    let front : take (length us) (schedule_of os ns) ≡ us =
    ap (take (length us)) (schedule-grows (i + 1) os ns e (omega arith)) ∙ take_at us rest (length us) refl in
    ap (λ ws. get_or (written os ws) i 0) front
    ∙ written-other os us i (λ q m same. let at = named-grows (i + 1) (drop (i + 1) os) (drop (i + 1) ns) q m in
    let is : q ≡ i + 1 + at.0 = at.1 in absurd (omega arith))

-- the greater of the labels at a place
maxs-at : (os ns : List ℕ) (i : ℕ) → length os ≡ length ns → i < length os
    → get_or (maxs os ns) i 0 ≡ cond (ltb (get_or os i 0) (get_or ns i 0)) (get_or ns i 0) (get_or os i 0)
maxs-at [] ns i e l = absurd (omega arith)
maxs-at (a ∷ os) [] i e l = absurd (omega arith)
maxs-at (a ∷ os) (b ∷ ns) zero e l = refl
maxs-at (a ∷ os) (b ∷ ns) (suc i) e l = maxs-at os ns i (omega arith) (omega arith)

-- the writes before the turn of place i to shrink
shrink-front : (i : ℕ) (os ns : List ℕ) → length os ≡ length ns → i ≤ length os
    → schedule_of os ns ≡ (ups 0 os ns ++ downs 0 (take i os) (take i ns)) ++ downs i (drop i os) (drop i ns)
shrink-front i os ns e l =
    let s : 0 + i ≡ i = omega arith in
    let cut : downs 0 os ns ≡ downs 0 (take i os) (take i ns) ++ downs i (drop i os) (drop i ns) =
    subst (λ m. downs 0 os ns ≡ downs 0 (take i os) (take i ns) ++ downs m (drop i os) (drop i ns)) s (downs-split 0 i os ns e l) in
    ap (λ ds. ups 0 os ns ++ ds) cut
    ∙ sym (append_assoc (ups 0 os ns) (downs 0 (take i os) (take i ns)) (downs i (drop i os) (drop i ns)))

-- how many they are
shrink-length : (i : ℕ) (os ns : List ℕ) → length (ups 0 os ns ++ downs 0 (take i os) (take i ns)) ≡ shrunk_before i os ns
shrink-length i os ns = length-append (ups 0 os ns) (downs 0 (take i os) (take i ns))

-- all writes are those before a turn to shrink and those from it on
shrink-all : (i : ℕ) (os ns : List ℕ) → length os ≡ length ns → i ≤ length os
    → length (schedule_of os ns) ≡ shrunk_before i os ns + length (downs i (drop i os) (drop i ns))
shrink-all i os ns e l =
    ap length (shrink-front i os ns e l)
    ∙ (length-append (ups 0 os ns ++ downs 0 (take i os) (take i ns)) (downs i (drop i os) (drop i ns))
    ∙ ap (λ j. j + length (downs i (drop i os) (drop i ns))) (shrink-length i os ns))

-- where the label of place i shrinks, its write follows those of the places before it
pub shrink-turn : (os ns : List ℕ) (i : ℕ) → length os ≡ length ns → i < length os → get_or ns i 0 < get_or os i 0
    → Turn os ns (shrunk_before i os ns) i × (shrunk_before (i + 1) os ns ≡ shrunk_before i os ns + 1)
shrink-turn os ns i e l lt =
    let us : Writes = ups 0 os ns ++ downs 0 (take i os) (take i ns) in
    let rest : Writes = downs (i + 1) (drop (i + 1) os) (drop (i + 1) ns) in
    let more = downs-yes os ns i l (omega arith) lt in
    let cut : schedule_of os ns ≡ us ++ (i, get_or ns i 0) ∷ rest = shrink-front i os ns e (omega arith) ∙ ap (λ xs. us ++ xs) more in
    let at = turn-behind (schedule_of os ns) us rest (i, get_or ns i 0) cut in
    let here = shrink-all i os ns e (omega arith) in
    let next = shrink-all (i + 1) os ns e (omega arith) in (
      subst (λ j. Turn os ns j i) (shrink-length i os ns) (record { within = at.0; write = at.1 }),
      omega (arith, here, next, ap length more),
    )

-- where it does not shrink, no write is made
pub shrink-none : (os ns : List ℕ) (i : ℕ) → length os ≡ length ns → i < length os → get_or os i 0 ≤ get_or ns i 0
    → shrunk_before (i + 1) os ns ≡ shrunk_before i os ns
shrink-none os ns i e l le =
    let more = downs-no os ns i l (omega arith) le in
    let here = shrink-all i os ns e (omega arith) in
    let next = shrink-all (i + 1) os ns e (omega arith) in
    omega (arith, here, next, ap length more)

-- before its turn to shrink, a place has the greater of both labels
pub shrink-read : (low end : ℕ) (os ns : List ℕ) (i : ℕ) → length os ≡ length ns → Ascends low end os → Ascends low end ns → i < length os
    → get_or (written os (take (shrunk_before i os ns) (schedule_of os ns))) i 0
    ≡ cond (ltb (get_or os i 0) (get_or ns i 0)) (get_or ns i 0) (get_or os i 0)
shrink-read low end os ns i e h k l =
    let ds : Writes = downs 0 (take i os) (take i ns) in
    let us : Writes = ups 0 os ns ++ ds in
    let rest : Writes = downs i (drop i os) (drop i ns) in
    let front : take (shrunk_before i os ns) (schedule_of os ns) ≡ us =
    ap (take (shrunk_before i os ns)) (shrink-front i os ns e (omega arith)) ∙ take_at us rest (shrunk_before i os ns) (shrink-length i os ns) in
    ap (λ ws. get_or (written os ws) i 0) front
    ∙ (ap (λ xs. get_or xs i 0) (written-append os (ups 0 os ns) ds)
    ∙ (written-other (written os (ups 0 os ns)) ds i (λ q m same. let below = downs-below 0 (take i os) (take i ns) q m in
    absurd (omega (arith, below, length-take-le i os (omega arith))))
    ∙ (ap (λ xs. get_or xs i 0) (ups-along low low end os ns e h k).1 ∙ maxs-at os ns i e l)))

-- the greater of two numbers is above the second just where the first is
pub above-greater : (a b : ℕ) → b < cond (ltb a b) b a → b < a
above-greater a b lt = elim (cases_lt a b) [
  | inl less ↦ absurd (let t : ltb a b ≡ true = lt-ltb a b less in let k : b < b = rw t at lt in omega arith)
  | inr le ↦ let t : ltb a b ≡ false = le-ltb a b le in rw t at lt
]

-- and else the first is no greater
pub not-above-greater : (a b : ℕ) → cond (ltb a b) b a ≤ b → a ≤ b
not-above-greater a b le = elim (cases_lt a b) [
  | inl less ↦ omega arith
  | inr ge ↦ let t : ltb a b ≡ false = le-ltb a b ge in rw t at le
]

-- at the end all writes are done
pub shrink-done : (os ns : List ℕ) → length os ≡ length ns → shrunk_before (length os) os ns ≡ length (schedule_of os ns)
shrink-done os ns e = omega (
  arith,
  shrink-all (length os) os ns e (omega arith),
  ap (λ xs. length (downs (length os) xs (drop (length os) ns))) (drop_all (length os) os (omega arith)),
)
