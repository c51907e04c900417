-- The graph of the rows: its edges are what the rows say.
use Rattle.std.proofs.Common.{◌≡◌, ◌≤◌, ◌<◌, ◌+◌, ◌-◌, ℕ, suc, zero, Bool, true, false, cond, ◌&&◌, List, [], ◌∷◌, length, get_or, map, eqb, ltb}
use Rattle.std.proofs.Common.{refl, sym, ◌∙◌, ap, subst, inl, inr, arith, eq-eqb, ltb-true, lt-ltb, le-ltb, ltb-false, le_of_lt, replicate, ap₂}
use Rattle.std.specs.List.{filter, list_any}
use Rattle.std.specs.Ordering.{nat_cmp, eq_by_cmp, is_eq}
use Rattle.std.specs.Cmp.{IsTotalOrder, Equal-is, tied_itself, both_ways, nat_cmp_total}
use Rattle.std.specs.FinSet.{contains, from_list, contains-from_list, IsAntisymmetric, FinSet, empty}
use Rattle.std.proofs.lemmas.Cmp.{on_total, then_total}
use Rattle.std.proofs.lemmas.Map.Lookups.{exact_pairs, exact_unsigned}
use Rattle.std.proofs.lemmas.Bool.{cases_lt, or_cases, or_left, or_right, and_parts, and_from, false≢true, false_from_ne_true, ltb-true, cases_order}
use Rattle.std.proofs.lemmas.List.Folds.{list_any-append}
use Rattle.kc_lists.specs.Lists.{member, Distinct}
use Rattle.kc_lists.proofs.Members.{member-cases, member-tail}
use Rattle.kc_graph.specs.SimpleGraph.{SimpleGraph, adjacent, pair_cmp}
use Rattle.std.specs.List.Sorted.{IsStrictlyIncreasing}
use Rattle.std.specs.Result.{is_ok}
use Rattle.std.specs.Prelude.{Result, Ok, Err, Some, slice_get}
use Rattle.std.proofs.lemmas.List.{length-replicate}
use Rattle.std.proofs.lemmas.Option.{get_or_from_slice_get}
use Rattle.std.proofs.lemmas.List.Kept.{AllPairs-from_increasing}
use Rattle.kc_graph.specs.Neighbours.{AreNeighbours}
use Rattle.kc_graph.specs.Rows.{row, pairs_from, graph_of, IsAdjacency, IsPlace}
use Rattle.kc_graph.proofs.Law.{adjacent-self}
use Rattle.kc_lists.proofs.Counting.{member-get_or, Contains-from_member, Distinct-from_pairs}
use Rattle.kc_lists.proofs.Shared.{get_or-any, never_falls}

-- pairs stand in a total order
pub pair_total : IsTotalOrder pair_cmp
pair_total = then_total (on_total (λ (x : ℕ × ℕ). x.0) nat_cmp_total) (on_total (λ (x : ℕ × ℕ). x.1) nat_cmp_total)

-- pairs that compare as equal are equal
pub pair_exact : IsAntisymmetric pair_cmp
pair_exact = exact_pairs nat_cmp nat_cmp exact_unsigned exact_unsigned

-- whether a pair is one of the listed pairs
abbrev one_of : ℕ × ℕ → List (ℕ × ℕ) → Bool
one_of q ps = list_any (eq_by_cmp pair_cmp q) ps

-- pairs that tie are the same pair
pub same_pair : (p q : ℕ × ℕ) → eq_by_cmp pair_cmp p q ≡ true → p ≡ q
same_pair p q h = pair_exact p q ((Equal-is (pair_cmp p q)).0 h)

-- the same pair ties with itself
pub tied_pair : (p q : ℕ × ℕ) → p ≡ q → eq_by_cmp pair_cmp p q ≡ true
tied_pair p q e = ap (λ (x : ℕ × ℕ). eq_by_cmp pair_cmp p x) (sym e) ∙ ap is_eq (tied_itself pair_total p)

-- a pair out of one row has its vertex first, and a greater number of the row second
higher-to : (u a b : ℕ) (r : List ℕ) → one_of (a, b) (map (λ w. (u, w)) (filter (ltb u) r)) ≡ true → (a ≡ u) × (u < b) × (member b r ≡ true)
higher-to u a b [] h = absurd (false≢true h)
higher-to u a b (w ∷ ws) h =
    elim (ltb u w) as (λ t. ltb u w ≡ t → one_of (a, b) (map (λ x. (u, x)) (cond t (w ∷ filter (ltb u) ws) (filter (ltb u) ws))) ≡ true
    → (a ≡ u) × (u < b) × (member b (w ∷ ws) ≡ true)) [
      | true ↦ λ e k. elim (or_cases (eq_by_cmp pair_cmp (a, b) (u, w)) (one_of (a, b) (map (λ x. (u, x)) (filter (ltb u) ws))) k) [
        | inl s ↦
            let p : (a, b) ≡ (u, w) = same_pair (a, b) (u, w) s in
            let b-w : b ≡ w = ap (λ (x : ℕ × ℕ). x.1) p in
            (ap (λ (x : ℕ × ℕ). x.0) p, (omega (arith, ltb-true u w e)), or_left (eqb b w) (member b ws) (eq-eqb b w b-w))
        | inr m ↦ let i = higher-to u a b ws m in (i.0, i.1, member-tail b w ws i.2)
      ]
      | false ↦ λ _ k. let i = higher-to u a b ws k in (i.0, i.1, member-tail b w ws i.2)
    ] refl h

-- a greater number of a row gives a pair with the row's vertex
higher-from : (u b : ℕ) (r : List ℕ) → u < b → member b r ≡ true → one_of (u, b) (map (λ w. (u, w)) (filter (ltb u) r)) ≡ true
higher-from u b [] l m = absurd (false≢true m)
higher-from u b (w ∷ ws) l m =
    elim (ltb u w) as (λ t. ltb u w ≡ t → one_of (u, b) (map (λ x. (u, x)) (cond t (w ∷ filter (ltb u) ws) (filter (ltb u) ws))) ≡ true) [
      | true ↦ λ e. elim (member-cases b w ws m) [
        | inl s ↦ or_left (eq_by_cmp pair_cmp (u, b) (u, w)) _ (tied_pair (u, b) (u, w) (ap (λ (x : ℕ). (u, x)) s))
        | inr k ↦ or_right (eq_by_cmp pair_cmp (u, b) (u, w)) _ (higher-from u b ws l k)
      ]
      | false ↦ λ e. elim (member-cases b w ws m) [
        | inl s ↦ absurd (omega (arith, ltb-false u w e))
        | inr k ↦ higher-from u b ws l k
      ]
    ] refl

-- a pair out of the rows has its lesser end first, and the other one stands in the row of that
pairs-to : (u a b : ℕ) (rows : List (List ℕ)) → one_of (a, b) (pairs_from u rows) ≡ true → (u ≤ a) × (a < b) × (member b (row rows (a - u)) ≡ true)
pairs-to u a b [] h = absurd (false≢true h)
pairs-to u a b (r ∷ rows) h =
    elim (or_cases _ _ (sym (list_any-append (eq_by_cmp pair_cmp (a, b)) (map (λ w. (u, w)) (filter (ltb u) r)) (pairs_from (u + 1) rows)) ∙ h)) [
      | inl k ↦
          let i = higher-to u a b r k in
          let e : a ≡ u = i.0 in
          let z : a - u ≡ 0 = omega arith in
          (omega arith, omega (arith, i.1), ap (λ n. member b (row (r ∷ rows) n)) z ∙ i.2)
      | inr k ↦
          let i = pairs-to (u + 1) a b rows k in
          let up : u + 1 ≤ a = i.0 in
          let s : a - u ≡ suc (a - (u + 1)) = omega arith in
          (omega arith, i.1, ap (λ n. member b (row (r ∷ rows) n)) s ∙ i.2)
    ]

-- a greater number in one of the rows gives a pair
pairs-from : (u k b : ℕ) (rows : List (List ℕ)) → u + k < b → member b (row rows k) ≡ true → one_of (u + k, b) (pairs_from u rows) ≡ true
pairs-from u k b [] l m = absurd (false≢true m)
pairs-from u zero b (r ∷ rows) l m =
    let z : u + 0 ≡ u = omega arith in
    list_any-append (eq_by_cmp pair_cmp (u + 0, b)) (map (λ w. (u, w)) (filter (ltb u) r)) (pairs_from (u + 1) rows)
    ∙ or_left _ _ (subst (λ (n : ℕ). one_of (n, b) (map (λ w. (u, w)) (filter (ltb u) r)) ≡ true) (sym z) (higher-from u b r (omega arith) m))
pairs-from u (suc k) b (r ∷ rows) l m =
    let s : u + suc k ≡ u + 1 + k = omega arith in
    list_any-append (eq_by_cmp pair_cmp (u + suc k, b)) (map (λ w. (u, w)) (filter (ltb u) r)) (pairs_from (u + 1) rows)
    ∙ or_right _ _ (subst (λ (n : ℕ). one_of (n, b) (pairs_from (u + 1) rows) ≡ true) (sym s) (pairs-from (u + 1) k b rows (omega arith) m))

-- the graph of the rows has a pair just where its lesser end comes first and has the other in its row
pub contains-edges : (rows : List (List ℕ)) (a b : ℕ) → contains (graph_of rows).edges (a, b) ≡ (ltb a b && member b (row rows a))
unfolding graph_of
contains-edges rows a b =
    contains-from_list pair_total (pairs_from 0 rows) (a, b)
    ∙ both_ways _ _
    (λ h. let i = pairs-to 0 a b rows h in and_from _ _ (lt-ltb a b i.1) (ap (λ n. member b (row rows n)) (omega arith) ∙ i.2))
    (λ h. let p = and_parts (ltb a b) (member b (row rows a)) h in
    let z : 0 + a ≡ a = omega arith in
    let l : a < b = ltb-true a b p.0 in
    subst (λ (n : ℕ). one_of (n, b) (pairs_from 0 rows) ≡ true) z (pairs-from 0 a b rows (omega arith) p.1))

-- the graph of the rows has a vertex for each row
pub size-graph_of : (rows : List (List ℕ)) → (graph_of rows).size ≡ length rows
unfolding graph_of
size-graph_of rows = refl

-- in the graph of the rows a vertex is adjacent to those in its row
pub adjacent-graph_of : (rows : List (List ℕ)) → IsAdjacency rows → (v w : ℕ) → adjacent (graph_of rows) v w ≡ member w (row rows v)
adjacent-graph_of rows h v w = elim (cases_order v w) [
  | inl e ↦ ap (adjacent (graph_of rows) v) (sym e) ∙ adjacent-self (graph_of rows) v ∙ sym (ap (λ n. member n (row rows v)) (sym e) ∙ h.irreflexive v)
  | inr o ↦ elim o [
    | inl l ↦ rw (lt-ltb v w l, contains-edges rows v w, lt-ltb v w l) refl
    | inr l ↦ rw (le-ltb v w (le_of_lt l), lt-ltb w v l, contains-edges rows w v, lt-ltb w v l) (h.symmetric w v)
  ]
]

-- there are as many rows as vertices in the graph that contracts see
pub size-view : (rows : List (List ℕ)) (g : SimpleGraph) → graph_of rows ≡ g → length rows ≡ g.size
size-view rows g e = sym (size-graph_of rows) ∙ ap (λ (x : SimpleGraph). x.size) e

-- in the graph that contracts see a vertex is adjacent to those in its row
pub adjacent-view : (rows : List (List ℕ)) (g : SimpleGraph) → graph_of rows ≡ g → IsAdjacency rows → (v w : ℕ) → member w (row rows v) ≡ adjacent g v w
adjacent-view rows g e h v w = sym (adjacent-graph_of rows h v w) ∙ ap (λ (x : SimpleGraph). adjacent x v w) e

-- the row of a vertex has its neighbours in the graph that contracts see
pub neighbours-view : (rows : List (List ℕ)) (g : SimpleGraph) → graph_of rows ≡ g → IsAdjacency rows → (v : ℕ) → AreNeighbours g v (row rows v)
neighbours-view rows g e h v = record {
  ascending = h.ascends v;
  within = λ w m. omega (arith, h.within v w m, size-view rows g e);
  exact = adjacent-view rows g e h v;
}

-- each of the rows without a neighbour is empty
pub row-replicate : (n v : ℕ) → row (replicate n []) v ≡ []
row-replicate zero v = refl
row-replicate (suc n) zero = refl
row-replicate (suc n) (suc v) = row-replicate n v

-- rows without a neighbour are the rows of a graph
pub IsAdjacency-none : (n : ℕ) → IsAdjacency (replicate n [])
IsAdjacency-none n = record {
  ascends = λ v. subst IsStrictlyIncreasing (sym (row-replicate n v)) (λ k l. absurd (omega arith));
  within = λ v w m. absurd (false≢true (ap (member w) (sym (row-replicate n v)) ∙ m));
  irreflexive = λ v. ap (member v) (row-replicate n v);
  symmetric = λ v w. ap (member w) (row-replicate n v) ∙ sym (ap (member v) (row-replicate n w));
}

-- rows without a neighbour give no pair
pub pairs_from-none : (u n : ℕ) → pairs_from u (replicate n []) ≡ []
pairs_from-none u zero = refl
pairs_from-none u (suc n) = pairs_from-none (u + 1) n

-- the graph of rows without a neighbour has no edge
pub graph_of-none : (n : ℕ) → graph_of (replicate n []) ≡ record { size = n; edges = empty }
unfolding graph_of
graph_of-none n =
    ap₂ (λ (m : ℕ) (e : FinSet pair_cmp). let g : SimpleGraph = record { size = m; edges = e } in g) (length-replicate n [])
    (ap from_list (pairs_from-none 0 n))

-- an ascending row has no number twice
pub Distinct-from_increasing : (xs : List ℕ) → IsStrictlyIncreasing xs → Distinct xs
Distinct-from_increasing xs up =
    Distinct-from_pairs xs
    (λ i j d lt l e. let k : get_or xs i d < get_or xs j d = AllPairs-from_increasing xs up i j d lt l in absurd (omega arith))

-- a number greater than the last of an ascending row has its place at the end
pub place_at_end : (xs : List ℕ) (w last : ℕ) → IsStrictlyIncreasing xs → Some last ≡ slice_get xs (length xs - 1) → last < w → IsPlace xs w (Err (length xs))
place_at_end xs w last up is lt = (
  omega arith,
  λ k l. let e : get_or xs (length xs - 1) 0 ≡ last = get_or_from_slice_get xs (length xs - 1) last 0 (sym is) in
      omega (arith, never_falls xs up k (length xs - 1) (omega arith) (omega arith)),
  λ k le l. absurd (omega arith),
)

-- whether a place was found is whether the number is there
pub place-found : (xs : List ℕ) (x : ℕ) (r : Result ℕ ℕ) → IsPlace xs x r → is_ok r ≡ member x xs
place-found xs x (Ok i) m = sym (ap (λ n. member n xs) (sym m.1) ∙ member-get_or xs i 0 m.0)
place-found xs x (Err i) m =
    sym (false_from_ne_true (member x xs) (λ in'.
    let (k, l, e) = Contains-from_member xs x in' in
    let e' : get_or xs k 0 ≡ x = get_or-any xs k 0 x l ∙ e in
    elim (cases_lt k i) [ inl lt ↦ absurd (omega (arith, m.1 k lt)) | inr ge ↦ absurd (omega (arith, m.2 k ge l)) ]))
