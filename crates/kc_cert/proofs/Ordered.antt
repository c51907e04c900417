-- The order of a certified state, by ranks.
use Rattle.std.proofs.Common.{◌≡◌, ◌≢◌, ◌≤◌, ◌<◌, ◌+◌, ℕ, suc, Bool, true, cond, ◌&&◌, List, [], ◌∷◌, drop, length, get_or, ltb, leb, refl, sym, ◌∙◌}
use Rattle.std.proofs.Common.{ap, subst, inl, inr, arith, true≢false, eq-eqb, ne_eqb, lt-ltb}
use Rattle.std.proofs.lemmas.Bool.{cases_Bool, cases_eq, cases_order, false≢true, false_from_ne_true}
use Rattle.std.proofs.lemmas.List.Elements.{All-contains}
use Rattle.std.specs.Prelude.{count_by, AllPairs}
use Rattle.kc_lists.specs.Lists.{member, Distinct, below}
use Rattle.kc_lists.proofs.Members.{member-head, member-tail}
use Rattle.kc_lists.proofs.Counting.{member-other, member-below, below-member, Distinct-below, member-from_Contains, Contains-from_member}
use Rattle.kc_lists.proofs.Counting.{Distinct-from_pairs, pairs_from_Distinct, member-get_or}
use Rattle.kc_graph.specs.SimpleGraph.{SimpleGraph, adjacent, degree_among}
use Rattle.kc_graph.specs.Certificate.{Certifies, Enumerates, degree_as_high}
use Rattle.kc_cert.specs.Ranks.{rank_in, AscendsBy, Orders}
use Rattle.kc_cert.proofs.Placing.{Orders-from_Ascends, later-count}
use Rattle.kc_cert.proofs.Sums.{count-same}

-- the first of an order has rank 0
rank-self : (x : ℕ) (ys : List ℕ) → rank_in (x ∷ ys) x ≡ 0
rank-self x ys = ap (λ b. cond b 0 (suc (rank_in ys x))) (eq-eqb x x refl)

-- another one has a rank one higher than without the first
pub rank-other : (x y : ℕ) (ys : List ℕ) → x ≢ y → rank_in (y ∷ ys) x ≡ rank_in ys x + 1
rank-other x y ys ne = let k : rank_in (y ∷ ys) x ≡ suc (rank_in ys x) = ap (λ b. cond b 0 (suc (rank_in ys x))) (ne_eqb x y ne) in omega (arith, k)

-- at the rank of a member stands the member
pub rank-here : (x : ℕ) (xs : List ℕ) → member x xs ≡ true → (rank_in xs x < length xs) × (get_or xs (rank_in xs x) 0 ≡ x)
rank-here x [] m = absurd (false≢true m)
rank-here x (y ∷ ys) m = elim (cases_eq x y) [
  | inl e ↦
      let z : rank_in (y ∷ ys) x ≡ 0 = ap (λ b. cond b 0 (suc (rank_in ys x))) (eq-eqb x y e) in
      (omega (arith, z), ap (λ k. get_or (y ∷ ys) k 0) z ∙ sym e)
  | inr ne ↦
      let k = rank-here x ys (member-other x y ys ne m) in
      let z : rank_in (y ∷ ys) x ≡ suc (rank_in ys x) = ap (λ b. cond b 0 (suc (rank_in ys x))) (ne_eqb x y ne) in
      (omega (arith, k.0, z), ap (λ k. get_or (y ∷ ys) k 0) z ∙ k.1)
]

-- a list without the first of an order ascends by its ranks as by those of the rest
Ascends-later : (x : ℕ) (xs ys : List ℕ) → ((y : ℕ) → member y ys ≡ true → y ≢ x) → AscendsBy (rank_in xs) ys → AscendsBy (rank_in (x ∷ xs)) ys
Ascends-later x xs [] ne a = tt
Ascends-later x xs (y ∷ ys) ne a = (
  λ z m. omega (arith, a.0 z m, rank-other y x xs (ne y (member-head y ys)), rank-other z x xs (ne z (member-tail z y ys m))),
  Ascends-later x xs ys (λ z m. ne z (member-tail z y ys m)) a.1,
)

-- an order that has each once ascends by its own ranks
pub rank-ascends : (xs : List ℕ) → Distinct xs → AscendsBy (rank_in xs) xs
rank-ascends [] d = tt
rank-ascends (x ∷ xs) d = (
  λ y m. let ne : y ≢ x = λ e. true≢false (sym m ∙ (ap (λ n. member n xs) e ∙ d.0)) in omega (arith, rank-self x xs, rank-other y x xs ne),
  Ascends-later x xs xs (λ y m e. true≢false (sym m ∙ (ap (λ n. member n xs) e ∙ d.0))) (rank-ascends xs d.1),
)

-- members of one rank are the same
pub rank-apart : (order : List ℕ) (x y : ℕ) → member x order ≡ true → member y order ≡ true → rank_in order x ≡ rank_in order y → x ≡ y
rank-apart order x y mx my e = sym (rank-here x order mx).1 ∙ (ap (λ k. get_or order k 0) e ∙ (rank-here y order my).1)

-- an order of the vertices below `n` has just these
pub order-has : (n : ℕ) (order : List ℕ) → Enumerates n order → (y : ℕ) → member y order ≡ member y (below n)
order-has n order h y = elim (cases_Bool (member y order)) [
  | inl m ↦ m ∙ sym (member-below y n (All-contains (λ w. w < n) order y h.below (Contains-from_member order y m)))
  | inr k ↦ k ∙ sym (false_from_ne_true _ (λ m. true≢false (sym (member-from_Contains order y (h.complete y (below-member y n m))) ∙ k)))
]

-- a list of the vertices below `n`, each once, is an order of them
pub distinct-enumerates : (n : ℕ) (order : List ℕ) → Distinct order → ((y : ℕ) → member y order ≡ member y (below n)) → Enumerates n order
distinct-enumerates n order d same = record {
  below = λ i e l. below-member (get_or order i e) n (sym (same (get_or order i e)) ∙ member-get_or order i e l);
  distinct = pairs_from_Distinct order d;
  complete = λ v l. Contains-from_member order v (same v ∙ member-below v n l);
}

-- an order of the vertices has each once
pub order-distinct : (n : ℕ) (order : List ℕ) → Enumerates n order → Distinct order
order-distinct n order h = Distinct-from_pairs order h.distinct

-- how many neighbours stand later, by ranks
pub later-ranked : (g : SimpleGraph) (order : List ℕ) (z : ℕ) → Distinct order → member z order ≡ true
    → degree_among g (drop (rank_in order z + 1) order) z ≡ count_by (λ y. adjacent g z y && ltb (rank_in order z) (rank_in order y)) order
later-ranked g order z d m =
    let lt : ℕ → ℕ → Bool = λ y x. ltb (rank_in order y) (rank_in order x) in
    let orders : Orders lt order = Orders-from_Ascends lt (rank_in order) order (λ y x my mx k. (lt-ltb _ _ k, grind (arith, k))) (rank-ascends order d) in
    later-count lt (adjacent g z) z order (λ y. grind arith) orders m

-- in a certified state few neighbours stand later, by ranks
pub few-ranked : (g : SimpleGraph) (core order : List ℕ) → Certifies g core order → (z : ℕ) → z < g.size
    → count_by (λ y. adjacent g z y && ltb (rank_in order z) (rank_in order y)) (below g.size) ≤ get_or core z 0
few-ranked g core order h z l =
    let d : Distinct order = order-distinct g.size order h.enumerates in
    let all : (y : ℕ) → member y order ≡ member y (below g.size) = order-has g.size order h.enumerates in
    let m : member z order ≡ true = all z ∙ member-below z g.size l in
    let here = rank-here z order m in
    let few : degree_among g (drop (rank_in order z + 1) order) (get_or order (rank_in order z) 0) ≤ get_or core
    (get_or order (rank_in order z) 0) 0 =
    h.few_later (rank_in order z) here.0 in
    let few' : degree_among g (drop (rank_in order z + 1) order) z ≤ get_or core z 0 =
    subst (λ (k : ℕ). degree_among g (drop (rank_in order z + 1) order) k ≤ get_or core k 0) here.1 few in
    let passing = later-ranked g order z d m in
    let same : count_by (λ y. adjacent g z y && ltb (rank_in order z) (rank_in order y)) order
    ≡ count_by (λ y. adjacent g z y && ltb (rank_in order z) (rank_in order y)) (below g.size) =
    count-same (λ y. adjacent g z y && ltb (rank_in order z) (rank_in order y)) order (below g.size) d (Distinct-below g.size) all in
    omega (arith, few', passing, same)

-- in a certified state each vertex has enough neighbours that are as high
pub enough-below : (g : SimpleGraph) (core order : List ℕ) → Certifies g core order → (z : ℕ) → z < g.size
    → get_or core z 0 ≤ count_by (λ y. adjacent g z y && leb (get_or core z 0) (get_or core y 0)) (below g.size)
enough-below g core order h z l =
    let test : ℕ → Bool = λ y. adjacent g z y && leb (get_or core z 0) (get_or core y 0) in
    let old : get_or core z 0 ≤ degree_as_high g core order z = h.enough_as_high z l in
    let same : count_by test order ≡ count_by test (below g.size) =
    count-same test order (below g.size) (order-distinct g.size order h.enumerates) (Distinct-below g.size)
    (order-has g.size order h.enumerates) in
    omega (arith, old, same)

-- where core numbers never fall along the order, a lesser one stands first
pub ranks-rise : (core order : List ℕ) → AllPairs (λ v w. get_or core v 0 ≤ get_or core w 0) order → (x y : ℕ) → member x order ≡ true
    → member y order ≡ true → get_or core x 0 < get_or core y 0 → rank_in order x < rank_in order y
ranks-rise core order up x y mx my lt = elim (cases_order (rank_in order x) (rank_in order y)) [
  | inl e ↦ let k : x ≡ y = rank-apart order x y mx my e in let k' : get_or core x 0 ≡ get_or core y 0 = ap (λ n. get_or core n 0) k in absurd (omega arith)
  | inr (inl l) ↦ l
  | inr (inr l) ↦
      let hy = rank-here y order my in
      let hx = rank-here x order mx in
      let k : get_or core (get_or order (rank_in order y) 0) 0 ≤ get_or core (get_or order (rank_in order x) 0) 0 =
      up (rank_in order y) (rank_in order x) 0 l hx.0 in
      let ey : get_or core (get_or order (rank_in order y) 0) 0 ≡ get_or core y 0 = ap (λ n. get_or core n 0) hy.1 in
      let ex : get_or core (get_or order (rank_in order x) 0) 0 ≡ get_or core x 0 = ap (λ n. get_or core n 0) hx.1 in
      absurd (omega arith)
]
