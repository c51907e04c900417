-- One put of a vertex in a list with heads.
use Rattle.std.proofs.Common.{◌≡◌, ◌≢◌, ◌<◌, ◌≤◌, ◌+◌, ℕ, zero, suc, Bool, true, false, cond, not, List, [], ◌∷◌, ◌++◌, length, get_or, set, eqb, ltb}
use Rattle.std.proofs.Common.{leb, refl, sym, ◌∙◌, ap, inl, inr, arith, true≢false, eq-eqb, ne_eqb, append-nil, append_assoc, ◌&&◌}
use Rattle.std.specs.List.{filter}
use Rattle.std.proofs.lemmas.Bool.{cases_eq, cases_lt, eqb-true, false_from_ne_true, lt-ltb, le-ltb, le-leb, lt-leb}
use Rattle.std.proofs.lemmas.List.{get_or-set_same, get_or-set_other}
use Rattle.std.proofs.lemmas.List.Elements.{filter-append}
use Rattle.kc_lists.specs.Lists.{member, Distinct, without, right_after, last_or, prev_of}
use Rattle.kc_lists.proofs.Members.{member-cases, not_member-cons, append-not_member, member-last_or, member-without, not_member-without, without-next}
use Rattle.kc_lists.proofs.Counting.{member-filter, Distinct-filter}
use Rattle.kc_lists.proofs.Members.{Distinct-without, without-append}
use Rattle.kc_graph.specs.Plans.{put_between}
use Rattle.kc_cert.proofs.Chaining.{right_after-here, right_after-next}
use Rattle.kc_levels.specs.Heads.{level_part, parts_from, with_heads, put}
use Rattle.kc_levels.proofs.Cuts.{filter-all, filter-swap, filter-alike, filter-none, filter-without, filter-but}
use Rattle.kc_levels.proofs.Cuts.{right_after-skip, right_after-both, right_after-last, filter-right_after}
use Rattle.kc_levels.proofs.Cuts.{prev_of-here, prev_of-next, prev_of-skip}

-- parts that agree from a head on
pub parts-alike : (n : ℕ) (part part' : ℕ → List ℕ) (k count : ℕ) → ((j : ℕ) → k ≤ j → part j ≡ part' j)
    → parts_from n part k count ≡ parts_from n part' k count
parts-alike n part part' k zero h = refl
parts-alike n part part' k (suc count) h =
    ap (λ (zs : List ℕ). (n + k) ∷ (zs ++ parts_from n part (suc k) count)) (h k (omega arith))
    ∙ ap (λ (zs : List ℕ). (n + k) ∷ (part' k ++ zs)) (parts-alike n part part' (suc k) count (λ j l. h j (omega (arith, l))))

-- the parts have vertices alone
abbrev pub HaveVertices : ℕ → (ℕ → List ℕ) → Type 0
HaveVertices n part = (j y : ℕ) → member y (part j) ≡ true → y < n

-- no head is in a part
pub no_head : (n k : ℕ) (part : ℕ → List ℕ) (j : ℕ) → HaveVertices n part → member (n + k) (part j) ≡ false
no_head n k part j h = false_from_ne_true (member (n + k) (part j)) (λ m. let l : n + k < n = h j (n + k) m in omega arith)

-- a vertex is left out part by part
pub parts-without : (n v : ℕ) (part : ℕ → List ℕ) (k count : ℕ) → v < n → without v (parts_from n part k count) ≡ parts_from n (λ j. without v (part j)) k count
parts-without n v part k zero l = refl
parts-without n v part k (suc count) l =
    without-next v (n + k) (part k ++ parts_from n part (suc k) count) (λ e. omega (arith, e, l))
    ∙ ap (λ (zs : List ℕ). (n + k) ∷ zs) (without-append v (part k) (parts_from n part (suc k) count)
    ∙ ap (λ (zs : List ℕ). without v (part k) ++ zs) (parts-without n v part (suc k) count l))

-- the parts with one of them changed
abbrev pub with_part : (ℕ → List ℕ) → ℕ → List ℕ → ℕ → List ℕ
with_part part level xs j = cond (eqb j level) xs (part j)

-- the part that changes
with_part-here : (part : ℕ → List ℕ) (level : ℕ) (xs : List ℕ) (j : ℕ) → j ≡ level → with_part part level xs j ≡ xs
with_part-here part level xs j e = ap (λ b. cond b xs (part j)) (eq-eqb j level e)

-- each other part
with_part-other : (part : ℕ → List ℕ) (level : ℕ) (xs : List ℕ) (j : ℕ) → j ≢ level → with_part part level xs j ≡ part j
with_part-other part level xs j ne = ap (λ b. cond b xs (part j)) (ne_eqb j level ne)

-- where a part other than the first changes
at_next : (n : ℕ) (part : ℕ → List ℕ) (level : ℕ) (xs : List ℕ) (k count : ℕ) → k ≢ level
    → (n + k) ∷ (part k ++ parts_from n (with_part part level xs) (suc k) count) ≡ parts_from n (with_part part level xs) k (suc count)
at_next n part level xs k count ne = ap (λ (zs : List ℕ). (n + k) ∷ (zs ++ parts_from n (with_part part level xs) (suc k) count))
    (sym (with_part-other part level xs k ne))

-- where the first part changes
at_first : (n : ℕ) (part : ℕ → List ℕ) (level : ℕ) (xs : List ℕ) (k count : ℕ) → k ≡ level
    → (n + k) ∷ (xs ++ parts_from n part (suc k) count) ≡ parts_from n (with_part part level xs) k (suc count)
at_first n part level xs k count e =
    ap (λ (zs : List ℕ). (n + k) ∷ (zs ++ parts_from n part (suc k) count)) (sym (with_part-here part level xs k e))
    ∙ ap (λ (zs : List ℕ). (n + k) ∷ (with_part part level xs k ++ zs))
    (parts-alike n part (with_part part level xs) (suc k) count (λ j l. sym (with_part-other part level xs j (λ q. omega (arith, q, e, l)))))

-- right behind a head
pub parts-front : (n v level : ℕ) (part : ℕ → List ℕ) (k count : ℕ) → HaveVertices n part → k ≤ level → level < k + count
    → right_after v (n + level) (parts_from n part k count) ≡ parts_from n (with_part part level (v ∷ part level)) k count
parts-front n v level part k zero h low high = absurd (omega (arith, low, high))
parts-front n v level part k (suc count) h low high = elim (cases_eq k level) [
  | inl e ↦
      right_after-here v (n + level) (n + k) (part k ++ parts_from n part (suc k) count) (ap (λ j. n + j) (sym e))
      ∙ (ap (λ (zs : List ℕ). (n + k) ∷ ((v ∷ zs) ++ parts_from n part (suc k) count)) (ap part e) ∙ at_first n part level (v ∷ part level) k count e)
  | inr ne ↦
      right_after-next v (n + level) (n + k) (part k ++ parts_from n part (suc k) count) (λ q. ne (omega (arith, q)))
      ∙ (ap (λ (zs : List ℕ). (n + k) ∷ zs) (right_after-skip v (n + level) (part k) (parts_from n part (suc k) count) (no_head n level part k h)
      ∙ ap (λ (zs : List ℕ). part k ++ zs) (parts-front n v level part (suc k) count h (omega (arith, low, ne)) (omega (arith, high))))
      ∙ at_next n part level (v ∷ part level) k count ne)
]

-- no vertex stands in two parts
abbrev pub AreApart : (ℕ → List ℕ) → Type 0
AreApart part = (i j y : ℕ) → member y (part i) ≡ true → member y (part j) ≡ true → i ≡ j

-- a vertex that is in no part is not in the list
pub parts-not_member : (n w : ℕ) (part : ℕ → List ℕ) (k count : ℕ) → w < n → ((j : ℕ) → k ≤ j → member w (part j) ≡ false)
    → member w (parts_from n part k count) ≡ false
parts-not_member n w part k zero l h = refl
parts-not_member n w part k (suc count) l h =
    not_member-cons w (n + k) (part k ++ parts_from n part (suc k) count) (λ e. omega (arith, e, l))
    (append-not_member w (part k) (parts_from n part (suc k) count) (h k (omega arith))
    (parts-not_member n w part (suc k) count l (λ j q. h j (omega (arith, q)))))

-- right behind a vertex
pub parts-after : (n v w : ℕ) (part : ℕ → List ℕ) (k count : ℕ) → AreApart part → w < n
    → right_after v w (parts_from n part k count) ≡ parts_from n (λ j. right_after v w (part j)) k count
parts-after n v w part k zero h l = refl
parts-after n v w part k (suc count) h l =
    right_after-next v w (n + k) (part k ++ parts_from n part (suc k) count) (λ e. omega (arith, e, l))
    ∙ ap (λ (zs : List ℕ). (n + k) ∷ zs) (right_after-both v w (part k) (parts_from n part (suc k) count)
    (λ m. parts-not_member n w part (suc k) count l (λ j q. false_from_ne_true (member w (part j)) (λ m'. omega (arith, h k j w m m', q))))
    ∙ ap (λ (zs : List ℕ). right_after v w (part k) ++ zs) (parts-after n v w part (suc k) count h l))

-- the last item of a level is in no other part
last_not_in : (n level : ℕ) (part : ℕ → List ℕ) (k : ℕ) → HaveVertices n part → AreApart part → k ≢ level
    → member (last_or (n + level) (part level)) ((n + k) ∷ part k) ≡ false
last_not_in n level part k h apart ne =
    let last : ℕ = last_or (n + level) (part level) in
    elim (member-cases last (n + level) (part level) (member-last_or (n + level) (part level))) [
      | inl e ↦ ap (λ (z : ℕ). member z ((n + k) ∷ part k)) e
          ∙ not_member-cons (n + level) (n + k) (part k) (λ q. ne (omega (arith, q))) (no_head n level part k h)
      | inr m ↦ not_member-cons last (n + k) (part k) (λ q. let l : last < n = h level last m in omega (arith, q, l))
          (false_from_ne_true (member last (part k)) (λ m'. ne (apart k level last m' m)))
    ]

-- right behind the last item of a level
pub parts-back : (n v level : ℕ) (part : ℕ → List ℕ) (k count : ℕ) → HaveVertices n part → AreApart part → Distinct (part level) → k ≤ level → level < k + count
    → right_after v (last_or (n + level) (part level)) (parts_from n part k count) ≡ parts_from n (with_part part level (part level ++ v ∷ [])) k count
parts-back n v level part k zero h apart d low high = absurd (omega (arith, low, high))
parts-back n v level part k (suc count) h apart d low high =
    let last : ℕ = last_or (n + level) (part level) in
    let rest : List ℕ = parts_from n part (suc k) count in
    elim (cases_eq k level) [
      | inl e ↦
          ap (λ (j : ℕ). right_after v last ((n + j) ∷ (part j ++ rest))) e
          ∙ (right_after-last v (n + level) (part level) rest (no_head n level part level h, d)
          ∙ (ap (λ (zs : List ℕ). (n + level) ∷ zs) (sym (append_assoc (part level) (v ∷ []) rest))
          ∙ (ap (λ (j : ℕ). (n + j) ∷ ((part level ++ v ∷ []) ++ rest)) (sym e) ∙ at_first n part level (part level ++ v ∷ []) k count e)))
      | inr ne ↦
          right_after-skip v last ((n + k) ∷ part k) rest (last_not_in n level part k h apart ne)
          ∙ (ap (λ (zs : List ℕ). (n + k) ∷ (part k ++ zs)) (parts-back n v level part (suc k) count h apart d (omega (arith, low, ne)) (omega (arith, high)))
          ∙ at_next n part level (part level ++ v ∷ []) k count ne)
    ]

-- what stands right before the next head
pub parts-prev : (n e level : ℕ) (part : ℕ → List ℕ) (k count : ℕ) → HaveVertices n part → k ≤ level → suc level < k + count
    → prev_of e (n + suc level) (parts_from n part k count) ≡ last_or (n + level) (part level)
parts-prev n e level part k zero h low high = absurd (omega (arith, low, high))
parts-prev n e level part k (suc zero) h low high = absurd (omega (arith, low, high))
parts-prev n e level part k (suc (suc count)) h low high =
    let rest : List ℕ = parts_from n part (suc k) (suc count) in
    prev_of-next e (n + suc level) (n + k) (part k ++ rest) (λ q. omega (arith, q, low))
    ∙ (prev_of-skip (n + k) (n + suc level) (part k) rest (no_head n (suc level) part k h)
    ∙ elim (cases_eq k level) [
      | inl q ↦ prev_of-here (last_or (n + k) (part k)) (n + suc level) (n + suc k) (part (suc k) ++ parts_from n part (suc (suc k)) count)
          (ap (λ j. n + suc j) (sym q)) ∙ ap (λ (j : ℕ). last_or (n + j) (part j)) q
      | inr ne ↦ parts-prev n (last_or (n + k) (part k)) level part (suc k) (suc count) h (omega (arith, low, ne)) (omega (arith, high))
    ])

-- the parts of an order of vertices
pub levels-have : (n : ℕ) (core order : List ℕ) → ((y : ℕ) → member y order ≡ true → y < n) → HaveVertices n (level_part core order)
levels-have n core order h j y m = h y (member-filter (λ v. eqb (get_or core v 0) j) y order m).0

-- no vertex has two levels
pub levels-apart : (core order : List ℕ) → AreApart (level_part core order)
levels-apart core order i j y a b =
    sym (eqb-true (get_or core y 0) i (member-filter (λ v. eqb (get_or core v 0) i) y order a).1)
    ∙ eqb-true (get_or core y 0) j (member-filter (λ v. eqb (get_or core v 0) j) y order b).1

-- the list with heads, once a vertex is out
pub heads-without : (n v : ℕ) (order core : List ℕ) → v < n → without v (with_heads n order core) ≡ parts_from n (level_part core (without v order)) 0 (suc n)
unfolding with_heads
heads-without n v order core l =
    parts-without n v (level_part core order) 0 (suc n) l
    ∙ parts-alike n (λ j. without v (level_part core order j)) (level_part core (without v order)) 0 (suc n)
    (λ j _. sym (filter-without (λ y. eqb (get_or core y 0) j) v order))

-- a vertex that is out has any level
pub part-out : (core order : List ℕ) (v c k : ℕ) → member v order ≡ false → level_part (set core v c) order k ≡ level_part core order k
part-out core order v c k out =
    filter-alike (λ y. eqb (get_or (set core v c) y 0) k) (λ y. eqb (get_or core y 0) k) order
    (λ y m. ap (λ (z : ℕ). eqb z k) (get_or-set_other core v y c 0 (λ (e : y ≡ v). true≢false (sym m ∙ (ap (λ (z : ℕ). member z order) e ∙ out)))))

-- what is within a bound is so without one of it
rest-within : (n v : ℕ) (order : List ℕ) → ((y : ℕ) → member y order ≡ true → y < n) → (y : ℕ) → member y (without v order) ≡ true → y < n
rest-within n v order within y m = within y (member-without y v order m).0

-- A vertex is put right after another: it has that one's level.
pub put-after : (n v w : ℕ) (order core : List ℕ) → ((y : ℕ) → member y order ≡ true → y < n) → v < n → w < n → v < length core → w ≢ v
    → put v w (with_heads n order core) ≡ with_heads n (put v w order) (set core v (get_or core w 0))
unfolding with_heads
put-after n v w order core within lv lw long ne =
    let rest : List ℕ = without v order in
    let c : ℕ = get_or core w 0 in
    let inside = rest-within n v order within in
    ap (right_after v w) (heads-without n v order core lv)
    ∙ (parts-after n v w (level_part core rest) 0 (suc n) (levels-apart core rest) lw
    ∙ parts-alike n (λ j. right_after v w (level_part core rest j)) (level_part (set core v c) (right_after v w rest)) 0 (suc n)
    (λ j _. ap (right_after v w) (sym (part-out core rest v c j (not_member-without v order)))
    ∙ sym (filter-right_after (λ y. eqb (get_or (set core v c) y 0) j) v w rest
    (ap (λ (z : ℕ). eqb z j) (get_or-set_same core v c 0 long ∙ sym (get_or-set_other core v w c 0 ne))))))

-- a level's part of an order that is cut in two, with a vertex between
level-parted : (core : List ℕ) (test : ℕ → Bool) (v c : ℕ) (rest : List ℕ) (j : ℕ) → member v rest ≡ false → v < length core
    → level_part (set core v c) (filter test rest ++ v ∷ filter (λ y. not (test y)) rest) j
    ≡ filter test (level_part core rest j) ++ cond (eqb c j) (v ∷ filter (λ y. not (test y)) (level_part core rest j))
    (filter (λ y. not (test y)) (level_part core rest j))
level-parted core test v c rest j out long =
    let p : ℕ → Bool = λ y. eqb (get_or (set core v c) y 0) j in
    let high : ℕ → Bool = λ y. not (test y) in
    let same : filter p rest ≡ level_part core rest j = part-out core rest v c j out in
    filter-append p (filter test rest) (v ∷ filter high rest)
    ∙ (ap (λ (zs : List ℕ). zs ++ filter p (v ∷ filter high rest)) (filter-swap p test rest ∙ ap (filter test) same)
    ∙ (ap (λ (b : Bool). filter test (level_part core rest j) ++ cond b (v ∷ filter p (filter high rest)) (filter p (filter high rest)))
    (ap (λ (z : ℕ). eqb z j) (get_or-set_same core v c 0 long))
    ∙ ap (λ (zs : List ℕ). filter test (level_part core rest j) ++ cond (eqb c j) (v ∷ zs) zs) (filter-swap p high rest ∙ ap (filter high) same)))

-- an order with one vertex put between
pub between-one : (test : ℕ → Bool) (v : ℕ) (order : List ℕ)
    → put_between test (v ∷ []) order ≡ filter test (without v order) ++ v ∷ filter (λ y. not (test y)) (without v order)
between-one test v order =
    ap (λ (zs : List ℕ). zs ++ v ∷ filter (λ y. not (test y) && not (member y (v ∷ []))) order) (filter-but test v order)
    ∙ ap (λ (zs : List ℕ). filter test (without v order) ++ v ∷ zs) (filter-but (λ y. not (test y)) v order)

-- what a test does in a level's part
all-pass : (core order : List ℕ) (test : ℕ → Bool) (j : ℕ) (b : Bool) → ((y : ℕ) → get_or core y 0 ≡ j → test y ≡ b) → (y : ℕ)
    → member y (level_part core order j) ≡ true → test y ≡ b
all-pass core order test j b h y m = h y (eqb-true (get_or core y 0) j (member-filter (λ v. eqb (get_or core v 0) j) y order m).1)

-- all of a level pass
pub low-part : (core order : List ℕ) (test : ℕ → Bool) (j : ℕ) → ((y : ℕ) → get_or core y 0 ≡ j → test y ≡ true)
    → (filter test (level_part core order j) ≡ level_part core order j) × (filter (λ y. not (test y)) (level_part core order j) ≡ [])
low-part core order test j h = (
  filter-all test (level_part core order j) (all-pass core order test j true h),
  filter-none (λ y. not (test y)) (level_part core order j) (λ y m. ap not (all-pass core order test j true h y m)),
)

-- none of a level passes
pub high-part : (core order : List ℕ) (test : ℕ → Bool) (j : ℕ) → ((y : ℕ) → get_or core y 0 ≡ j → test y ≡ false)
    → (filter test (level_part core order j) ≡ []) × (filter (λ y. not (test y)) (level_part core order j) ≡ level_part core order j)
high-part core order test j h = (
  filter-none test (level_part core order j) (all-pass core order test j false h),
  filter-all (λ y. not (test y)) (level_part core order j) (λ y m. ap not (all-pass core order test j false h y m)),
)

-- A vertex is put right behind the head of a level: it is the first of that level.
pub put-front : (n v level : ℕ) (order core : List ℕ) → ((y : ℕ) → member y order ≡ true → y < n) → v < n → v < length core → level ≤ n
    → put v (n + level) (with_heads n order core) ≡ with_heads n (put_between (λ y. ltb (get_or core y 0) level) (v ∷ []) order) (set core v level)
unfolding with_heads
put-front n v level order core within lv long high =
    let rest : List ℕ = without v order in
    let part : ℕ → List ℕ = level_part core rest in
    let low : ℕ → Bool = λ y. ltb (get_or core y 0) level in
    let inside = rest-within n v order within in
    let at : (j : ℕ) → with_part part level (v ∷ part level) j ≡ level_part (set core v level) (put_between low (v ∷ []) order) j = λ j.
    let is : level_part (set core v level) (put_between low (v ∷ []) order) j
    ≡ filter low (part j) ++ cond (eqb level j) (v ∷ filter (λ y. not (low y)) (part j)) (filter (λ y. not (low y)) (part j)) =
    ap (λ (zs : List ℕ). level_part (set core v level) zs j) (between-one low v order)
    ∙ level-parted core low v level rest j (not_member-without v order) long in
    elim (cases_eq j level) [
      | inl e ↦
          let h = high-part core rest low j (λ y q. le-ltb (get_or core y 0) level (omega (arith, q, e))) in
          with_part-here part level (v ∷ part level) j e
          ∙ (ap (λ (k : ℕ). v ∷ part k) (sym e)
          ∙ sym (is ∙ (ap (λ (b : Bool). filter low (part j) ++ cond b (v ∷ filter (λ y. not (low y)) (part j)) (filter (λ y. not (low y)) (part j)))
          (eq-eqb level j (sym e))
          ∙ (ap (λ (zs : List ℕ). zs ++ v ∷ filter (λ y. not (low y)) (part j)) h.0 ∙ ap (λ (zs : List ℕ). v ∷ zs) h.1))))
      | inr ne ↦
          with_part-other part level (v ∷ part level) j ne
          ∙ sym (is ∙ (ap (λ (b : Bool). filter low (part j) ++ cond b (v ∷ filter (λ y. not (low y)) (part j)) (filter (λ y. not (low y)) (part j)))
          (ne_eqb level j (λ e. ne (sym e)))
          ∙ elim (cases_lt j level) [
            | inl l ↦ let h = low-part core rest low j (λ y q. lt-ltb (get_or core y 0) level (omega (arith, q, l))) in ap
                (λ (zs : List ℕ). zs ++ filter (λ y. not (low y)) (part j)) h.0 ∙ (ap (λ (zs : List ℕ). part j ++ zs) h.1 ∙ append-nil (part j))
            | inr g ↦ let h = high-part core rest low j (λ y q. le-ltb (get_or core y 0) level (omega (arith, q, g))) in ap
                (λ (zs : List ℕ). zs ++ filter (λ y. not (low y)) (part j)) h.0 ∙ h.1
          ]))
    ] in
    ap (right_after v (n + level)) (heads-without n v order core lv)
    ∙ (parts-front n v level part 0 (suc n) (levels-have n core rest inside) (omega arith) (omega (arith, high))
    ∙ parts-alike n (with_part part level (v ∷ part level)) (level_part (set core v level) (put_between low (v ∷ []) order)) 0 (suc n) (λ j _. at j))

-- A vertex is put after the last other item before the next head: it is the last of the level.
pub put-back : (n e v level : ℕ) (order core : List ℕ) → ((y : ℕ) → member y order ≡ true → y < n) → Distinct order → v < n → v < length core → level < n
    → put v (prev_of e (n + suc level) (without v (with_heads n order core))) (with_heads n order core)
    ≡ with_heads n (put_between (λ y. leb (get_or core y 0) level) (v ∷ []) order) (set core v level)
unfolding with_heads
put-back n e v level order core within distinct lv long high =
    let rest : List ℕ = without v order in
    let part : ℕ → List ℕ = level_part core rest in
    let low : ℕ → Bool = λ y. leb (get_or core y 0) level in
    let inside = rest-within n v order within in
    let at : (j : ℕ) → with_part part level (part level ++ v ∷ []) j ≡ level_part (set core v level) (put_between low (v ∷ []) order) j = λ j.
    let is : level_part (set core v level) (put_between low (v ∷ []) order) j
    ≡ filter low (part j) ++ cond (eqb level j) (v ∷ filter (λ y. not (low y)) (part j)) (filter (λ y. not (low y)) (part j)) =
    ap (λ (zs : List ℕ). level_part (set core v level) zs j) (between-one low v order)
    ∙ level-parted core low v level rest j (not_member-without v order) long in
    elim (cases_eq j level) [
      | inl q ↦
          let h = low-part core rest low j (λ y k. le-leb (get_or core y 0) level (omega (arith, k, q))) in
          with_part-here part level (part level ++ v ∷ []) j q
          ∙ (ap (λ (k : ℕ). part k ++ v ∷ []) (sym q)
          ∙ sym (is ∙ (ap (λ (b : Bool). filter low (part j) ++ cond b (v ∷ filter (λ y. not (low y)) (part j)) (filter (λ y. not (low y)) (part j)))
          (eq-eqb level j (sym q))
          ∙ (ap (λ (zs : List ℕ). zs ++ v ∷ filter (λ y. not (low y)) (part j)) h.0 ∙ ap (λ (zs : List ℕ). part j ++ v ∷ zs) h.1))))
      | inr ne ↦
          with_part-other part level (part level ++ v ∷ []) j ne
          ∙ sym (is ∙ (ap (λ (b : Bool). filter low (part j) ++ cond b (v ∷ filter (λ y. not (low y)) (part j)) (filter (λ y. not (low y)) (part j)))
          (ne_eqb level j (λ q. ne (sym q)))
          ∙ elim (cases_lt j level) [
            | inl l ↦ let h = low-part core rest low j (λ y q. le-leb (get_or core y 0) level (omega (arith, q, l))) in ap
                (λ (zs : List ℕ). zs ++ filter (λ y. not (low y)) (part j)) h.0 ∙ (ap (λ (zs : List ℕ). part j ++ zs) h.1 ∙ append-nil (part j))
            | inr g ↦ let h = high-part core rest low j (λ y q. lt-leb (get_or core y 0) level (omega (arith, q, g, ne))) in ap
                (λ (zs : List ℕ). zs ++ filter (λ y. not (low y)) (part j)) h.0 ∙ h.1
          ]))
    ] in
    let have : HaveVertices n part = levels-have n core rest inside in
    let out : without v (with_heads n order core) ≡ parts_from n part 0 (suc n) = heads-without n v order core lv in
    let last : prev_of e (n + suc level) (without v (with_heads n order core)) ≡ last_or (n + level) (part level) =
    ap (prev_of e (n + suc level)) out ∙ parts-prev n e level part 0 (suc n) have (omega arith) (omega (arith, high)) in
    ap (λ (p : ℕ). right_after v p (without v (with_heads n order core))) last
    ∙ (ap (right_after v (last_or (n + level) (part level))) out
    ∙ (parts-back n v level part 0 (suc n) have (levels-apart core rest)
    (Distinct-filter (λ y. eqb (get_or core y 0) level) rest (Distinct-without v order distinct)) (omega arith) (omega (arith, high))
    ∙ parts-alike n (with_part part level (part level ++ v ∷ [])) (level_part (set core v level) (put_between low (v ∷ []) order)) 0 (suc n) (λ j _. at j)))
