-- Orders along which the levels never fall, and how puts keep them so.
use Rattle.std.proofs.Common.{◌≡◌, ◌≢◌, ◌<◌, ◌≤◌, ◌+◌, ℕ, zero, suc, Bool, true, false, cond, not, List, [], ◌∷◌, ◌++◌, length, get_or, set, eqb, ltb}
use Rattle.std.proofs.Common.{leb, refl, sym, ◌∙◌, ap, ap₂, subst, inl, inr, arith, eq-eqb, ne_eqb}
use Rattle.std.specs.List.{filter}
use Rattle.std.specs.Prelude.{AllPairs}
use Rattle.std.proofs.lemmas.Bool.{cases_order, eqb-true, eqb-false, lt-ltb, le-ltb, le-leb, lt-leb, not-true}
use Rattle.std.proofs.lemmas.List.{get_or-set_same, get_or-set_other}
use Rattle.std.proofs.lemmas.List.Elements.{filter-append}
use Rattle.kc_lists.specs.Lists.{member, without, right_after}
use Rattle.kc_lists.proofs.Members.{member-head, member-tail, member-cases, member-append, member-without, member-right_after, without-member}
use Rattle.kc_lists.proofs.Counting.{member-filter, member-get_or, Contains-from_member}
use Rattle.kc_graph.specs.Plans.{put_between}
use Rattle.kc_levels.specs.Heads.{level_part, parts_from, with_heads, vertices_of, put}
use Rattle.kc_levels.specs.Levels.{Rises}
use Rattle.kc_levels.proofs.Cuts.{filter-all, filter-none, filter-yes, filter-no}
use Rattle.kc_levels.proofs.Heading.{between-one}

-- two parts of which the second is no lower
pub Rises-append : (core xs ys : List ℕ) → Rises core xs → Rises core ys
    → ((x y : ℕ) → member x xs ≡ true → member y ys ≡ true → get_or core x 0 ≤ get_or core y 0) → Rises core (xs ++ ys)
Rises-append core [] ys a b h = b
Rises-append core (x ∷ xs) ys a b h = (
  λ w m. elim (member-append w xs ys m) [ inl k ↦ a.0 w k | inr k ↦ h x w (member-head x xs) k ],
  Rises-append core xs ys a.1 b (λ u w mu mw. h u w (member-tail u x xs mu) mw),
)

-- a filter keeps that levels never fall along a list
pub Rises-filter : (core : List ℕ) (p : ℕ → Bool) (xs : List ℕ) → Rises core xs → Rises core (filter p xs)
Rises-filter core p [] a = tt
Rises-filter core p (x ∷ xs) a = elim (p x) as (λ b. Rises core (cond b (x ∷ filter p xs) (filter p xs))) [
  | true ↦ (λ w m. a.0 w (member-filter p w xs m).0, Rises-filter core p xs a.1)
  | false ↦ Rises-filter core p xs a.1
]

-- leaving out a vertex keeps that levels never fall along a list
pub Rises-without : (core : List ℕ) (v : ℕ) (xs : List ℕ) → Rises core xs → Rises core (without v xs)
Rises-without core v [] a = tt
Rises-without core v (x ∷ xs) a = elim (eqb v x) as (λ b. Rises core (cond b (without v xs) (x ∷ without v xs))) [
  | true ↦ Rises-without core v xs a.1
  | false ↦ (λ w m. a.0 w (member-without w v xs m).0, Rises-without core v xs a.1)
]

-- numbers that agree on the members
pub Rises-alike : (core core' xs : List ℕ) → ((y : ℕ) → member y xs ≡ true → get_or core' y 0 ≡ get_or core y 0) → Rises core xs → Rises core' xs
Rises-alike core core' [] h a = tt
Rises-alike core core' (x ∷ xs) h a = (
  λ w m. omega (arith, a.0 w m, h x (member-head x xs), h w (member-tail w x xs m)),
  Rises-alike core core' xs (λ y m. h y (member-tail y x xs m)) a.1,
)

-- one put right after another of its number
Rises-placed : (core : List ℕ) (v w : ℕ) (zs : List ℕ) → member w zs ≡ true → get_or core v 0 ≡ get_or core w 0 → Rises core zs
    → Rises core (right_after v w zs)
Rises-placed core v w [] m e a = tt
Rises-placed core v w (z ∷ zs) m e a = elim (eqb w z) as (λ b. eqb w z ≡ b → Rises core (cond b (z ∷ v ∷ zs) (z ∷ right_after v w zs))) [
  | true ↦ λ t.
      let same : get_or core v 0 ≡ get_or core z 0 = e ∙ ap (λ (k : ℕ). get_or core k 0) (eqb-true w z t) in (
        λ y k. elim (member-cases y v zs k) [ inl q ↦ omega (arith, same, ap (λ (j : ℕ). get_or core j 0) q) | inr q ↦ a.0 y q ],
        (λ y k. omega (arith, same, a.0 y k), a.1),
      )
  | false ↦ λ f.
      let there : member w zs ≡ true = elim (member-cases w z zs m) [ inl q ↦ absurd (eqb-false w z f q) | inr q ↦ q ] in (
        λ y k. elim (member-right_after y v w zs k) [ inl q ↦ omega (arith, a.0 w there, e, ap (λ (j : ℕ). get_or core j 0) q) | inr q ↦ a.0 y q ],
        Rises-placed core v w zs there e a.1,
      )
] refl

-- right after another vertex
pub Rises-after : (core : List ℕ) (v w : ℕ) (order : List ℕ) → member w order ≡ true → w ≢ v → v < length core → Rises core order
    → Rises (set core v (get_or core w 0)) (put v w order)
Rises-after core v w order m ne long a =
    let now : List ℕ = set core v (get_or core w 0) in
    let others : (y : ℕ) → member y (without v order) ≡ true → get_or now y 0 ≡ get_or core y 0 =
    λ y k. get_or-set_other core v y (get_or core w 0) 0 (member-without y v order k).1 in
    Rises-placed now v w (without v order) (without-member w v order m ne)
    (get_or-set_same core v (get_or core w 0) 0 long ∙ sym (get_or-set_other core v w (get_or core w 0) 0 ne))
    (Rises-alike core now (without v order) others (Rises-without core v order a))

-- between those that are no higher and those that are no lower
pub Rises-between : (core : List ℕ) (test : ℕ → Bool) (v level : ℕ) (order : List ℕ) → v < length core
    → ((y : ℕ) → test y ≡ true → get_or core y 0 ≤ level) → ((y : ℕ) → test y ≡ false → level ≤ get_or core y 0)
    → Rises core order → Rises (set core v level) (put_between test (v ∷ []) order)
Rises-between core test v level order long low high a =
    let now : List ℕ = set core v level in
    let rest : List ℕ = without v order in
    let lows : List ℕ = filter test rest in
    let highs : List ℕ = filter (λ y. not (test y)) rest in
    let others : (y : ℕ) → member y rest ≡ true → get_or now y 0 ≡ get_or core y 0 = λ y k. get_or-set_other core v y level 0 (member-without y v order k).1 in
    let here : get_or now v 0 ≡ level = get_or-set_same core v level 0 long in
    let rises : Rises now rest = Rises-alike core now rest others (Rises-without core v order a) in
    let is-low : (y : ℕ) → member y lows ≡ true → get_or now y 0 ≤ level = λ y m. let k =
    member-filter test y rest m in omega (arith, others y k.0, low y k.1) in
    let is-high : (y : ℕ) → member y highs ≡ true → level ≤ get_or now y 0 = λ y m. let k =
    member-filter (λ z. not (test z)) y rest m in omega (arith, others y k.0, high y (not-true (test y) k.1)) in
    subst (Rises now) (sym (between-one test v order))
    (Rises-append now lows (v ∷ highs) (Rises-filter now test rest rises)
    (λ y m. omega (arith, here, is-high y m), Rises-filter now (λ y. not (test y)) rest rises)
    (λ x y mx my. elim (member-cases y v highs my) [
      | inl e ↦ omega (arith, here, is-low x mx, ap (λ (k : ℕ). get_or now k 0) e)
      | inr m ↦ omega (arith, is-low x mx, is-high y m)
    ]))

-- the part of a level, and all above it
cut-rises : (core : List ℕ) (k : ℕ) (order : List ℕ) → Rises core order
    → filter (λ y. leb k (get_or core y 0)) order ≡ level_part core order k ++ filter (λ y. leb (suc k) (get_or core y 0)) order
cut-rises core k [] a = refl
cut-rises core k (x ∷ xs) a =
    let from : ℕ → Bool = λ y. leb k (get_or core y 0) in
    let above : ℕ → Bool = λ y. leb (suc k) (get_or core y 0) in
    let at : ℕ → Bool = λ y. eqb (get_or core y 0) k in
    let rest = cut-rises core k xs a.1 in
    elim (cases_order (get_or core x 0) k) [
      | inl e ↦
          filter-yes from x xs (le-leb k (get_or core x 0) (omega (arith, e)))
          ∙ (ap (λ (zs : List ℕ). x ∷ zs) rest
          ∙ sym (ap₂ (λ (ps qs : List ℕ). ps ++ qs) (filter-yes at x xs (eq-eqb (get_or core x 0) k e))
          (filter-no above x xs (lt-leb (suc k) (get_or core x 0) (omega (arith, e))))))
      | inr (inl l) ↦
          filter-no from x xs (lt-leb k (get_or core x 0) l)
          ∙ (rest
          ∙ sym (ap₂ (λ (ps qs : List ℕ). ps ++ qs) (filter-no at x xs (ne_eqb (get_or core x 0) k (λ e. omega (arith, e, l))))
          (filter-no above x xs (lt-leb (suc k) (get_or core x 0) (omega (arith, l))))))
      | inr (inr g) ↦
          let none : filter at xs ≡ [] = filter-none at xs (λ y m. ne_eqb (get_or core y 0) k (λ e. omega (arith, e, g, a.0 y m))) in
          filter-yes from x xs (le-leb k (get_or core x 0) (omega (arith, g)))
          ∙ (ap (λ (zs : List ℕ). x ∷ zs) (rest ∙ ap (λ (zs : List ℕ). zs ++ filter above xs) none)
          ∙ sym (ap₂ (λ (ps qs : List ℕ). ps ++ qs) (filter-no at x xs (ne_eqb (get_or core x 0) k (λ e. omega (arith, e, g))) ∙ none)
          (filter-yes above x xs (le-leb (suc k) (get_or core x 0) (omega (arith, g))))))
    ]

-- the vertices from a head on
vertices-from : (n : ℕ) (core order : List ℕ) (k count : ℕ) → Rises core order → ((y : ℕ) → member y order ≡ true → (y < n) × (get_or core y 0 < k + count))
    → filter (λ x. ltb x n) (parts_from n (level_part core order) k count) ≡ filter (λ y. leb k (get_or core y 0)) order
vertices-from n core order k zero a h = sym (filter-none (λ y. leb k (get_or core y 0)) order (λ y m. lt-leb k (get_or core y 0) (omega (arith, (h y m).1))))
vertices-from n core order k (suc count) a h =
    let below_n : ℕ → Bool = λ x. ltb x n in
    let part : List ℕ = level_part core order k in
    let rest : List ℕ = parts_from n (level_part core order) (suc k) count in
    filter-no below_n (n + k) (part ++ rest) (le-ltb (n + k) n (omega arith))
    ∙ (filter-append below_n part rest
    ∙ (ap₂ (λ (ps qs : List ℕ). ps ++ qs) (filter-all below_n part (λ y m. lt-ltb y n (h y (member-filter (λ v. eqb (get_or core v 0) k) y order m).0).0))
    (vertices-from n core order (suc k) count a (λ y m. ((h y m).0, omega (arith, (h y m).1))))
    ∙ sym (cut-rises core k order a)))

-- the vertices of a list with heads are the order
pub vertices-order : (n : ℕ) (core order : List ℕ) → Rises core order → ((y : ℕ) → member y order ≡ true → (y < n) × (get_or core y 0 < suc n))
    → vertices_of n (with_heads n order core) ≡ order
unfolding with_heads
vertices-order n core order a h =
    vertices-from n core order 0 (suc n) a (λ y m. ((h y m).0, omega (arith, (h y m).1)))
    ∙ filter-all (λ y. leb 0 (get_or core y 0)) order (λ y m. le-leb 0 (get_or core y 0) (omega arith))

-- what clauses say of all pairs gives by recursion that levels never fall along the order
pub Rises-from_pairs : (core order : List ℕ) → AllPairs (λ v w. get_or core v 0 ≤ get_or core w 0) order → Rises core order
Rises-from_pairs core [] h = tt
Rises-from_pairs core (x ∷ xs) h = (
  λ w m. let c = Contains-from_member xs w m in subst (λ (k : ℕ). get_or core x 0 ≤ get_or core k 0) c.2 (h 0 (suc c.0) w (omega arith) (omega (arith, c.1))),
  Rises-from_pairs core xs (λ i j d l k. h (suc i) (suc j) d (omega (arith, l)) (omega (arith, k))),
)

-- that levels never fall along the order, by recursion, gives what clauses say of all pairs
pub pairs_from_Rises : (core order : List ℕ) → Rises core order → AllPairs (λ v w. get_or core v 0 ≤ get_or core w 0) order
pairs_from_Rises core [] h i j d l k = absurd (omega (arith, k))
pairs_from_Rises core (x ∷ xs) h zero zero d l k = absurd (omega (arith, l))
pairs_from_Rises core (x ∷ xs) h zero (suc j) d l k = h.0 (get_or xs j d) (member-get_or xs j d (omega (arith, k)))
pairs_from_Rises core (x ∷ xs) h (suc i) zero d l k = absurd (omega (arith, l))
pairs_from_Rises core (x ∷ xs) h (suc i) (suc j) d l k = pairs_from_Rises core xs h.1 i j d (omega (arith, l)) (omega (arith, k))
