-- The graph of rows that have just the listed edges.
use Rattle.std.proofs.Common.{◌≡◌, ◌≤◌, ◌<◌, ℕ, suc, zero, Bool, true, false, cond, not, ◌&&◌, ◌||◌, List, [], ◌∷◌, length, get_or, map, ltb, refl, sym, ◌∙◌}
use Rattle.std.proofs.Common.{ap, ap₂, inl, inr, arith, ltb-true, lt-ltb, le-ltb, eq-eqb, ne_eqb}
use Rattle.std.specs.Prelude.{All}
use Rattle.std.specs.List.{filter, list_any}
use Rattle.std.specs.List.Sorted.{IsStrictlyIncreasing}
use Rattle.std.specs.Cmp.{both_ways}
use Rattle.std.specs.Ordering.{eq_by_cmp}
use Rattle.std.specs.FinSet.{FinSet, from_list, contains, contains-from_list, same_set}
use Rattle.std.proofs.lemmas.Bool.{cases_lt, cases_order, or_cases, or_from, and_parts, and_from, false≢true, true≢false, false_from_ne_true}
use Rattle.std.proofs.lemmas.List.Elements.{All-tail, All-map, All-weaker}
use Rattle.std.specs.List.{between}
use Rattle.kc_lists.specs.Lists.{member}
use Rattle.kc_graph.specs.SimpleGraph.{SimpleGraph, adjacent, pair_cmp}
use Rattle.kc_graph.specs.Edges.{edge}
use Rattle.kc_graph.specs.Rows.{row, graph_of, IsAdjacency}
use Rattle.kc_graph.specs.Bulk.{graph_with, is_no_loop, is_within, is_between, are_joined}
use Rattle.kc_graph.specs.declared.bulk.Edge.{Edge}
use Rattle.kc_graph.proofs.Buckets.{row_past}
use Rattle.kc_graph.proofs.Scattering.{member-ends, places-rise}
use Rattle.kc_graph.specs.Blocks.{first_of}
use Rattle.kc_graph.specs.Gathering.{edge_of, ends_at, first_place, Filled}
use Rattle.kc_graph.proofs.Law.{adjacent-self}
use Rattle.kc_graph.proofs.Ends.{joins, joins-true, joins-edge, edge-joins, joins-sym}
use Rattle.kc_graph.proofs.RowsLemmas.{pair_total, pair_exact, same_pair, tied_pair, contains-edges, size-graph_of}

-- an edge that is no loop is the pair of two ends just where it is between them
edge-is : (e : Edge) (a b : ℕ) → is_no_loop e ≡ true → eq_by_cmp pair_cmp (a, b) (edge e.u e.v) ≡ (ltb a b && joins e.u e.v a b)
edge-is e a b two =
    let differ : e.u ≡ e.v → ⊥ = λ same. true≢false (sym two ∙ ap not (eq-eqb e.u e.v same)) in
    both_ways _ _
    (λ h. let k = edge-joins e.u e.v a b differ (same_pair (a, b) (edge e.u e.v) h) in and_from _ _ (lt-ltb a b k.0) k.1)
    (λ h. let k = and_parts (ltb a b) (joins e.u e.v a b) h in tied_pair (a, b) (edge e.u e.v) (joins-edge e.u e.v a b differ (ltb-true a b k.0) k.1))

-- what both of two alternatives ask can be asked once
and-or : (l a b : Bool) → ((l && a) || (l && b)) ≡ (l && (a || b))
and-or l a b = grind arith

-- a pair is one of the listed edges just where its lesser end comes first and a listed edge joins its ends
pair-listed : (edges : List Edge) (a b : ℕ)
    → list_any (eq_by_cmp pair_cmp (a, b)) (map (λ e. edge e.u e.v) (filter is_no_loop edges)) ≡ (ltb a b && are_joined edges a b)
pair-listed [] a b = both_ways _ _ (λ h. absurd (false≢true h)) (λ h. absurd (false≢true (and_parts (ltb a b) false h).1))
pair-listed (e ∷ edges) a b =
    elim (is_no_loop e) as (λ t. is_no_loop e ≡ t → list_any (eq_by_cmp pair_cmp (a, b))
    (map (λ e. edge e.u e.v) (cond t (e ∷ filter is_no_loop edges) (filter is_no_loop edges)))
    ≡ (ltb a b && ((t && joins e.u e.v a b) || are_joined edges a b))) [
      | true ↦ λ two. ap₂ (λ s t. s || t) (edge-is e a b two) (pair-listed edges a b) ∙ and-or (ltb a b) (joins e.u e.v a b) (are_joined edges a b)
      | false ↦ λ _. pair-listed edges a b
    ] refl

-- the graph of listed edges has a pair just where its lesser end comes first and a listed edge joins its ends
pub contains-with : (vertices : ℕ) (edges : List Edge) (a b : ℕ) → contains (graph_with vertices edges).edges (a, b) ≡ (ltb a b && are_joined edges a b)
unfolding graph_with
contains-with vertices edges a b = contains-from_list pair_total (map (λ e. edge e.u e.v) (filter is_no_loop edges)) (a, b) ∙ pair-listed edges a b

-- the graph of listed edges has the vertices that it is given
pub size-with : (vertices : ℕ) (edges : List Edge) → (graph_with vertices edges).size ≡ vertices
unfolding graph_with
size-with vertices edges = refl

-- an edge is between two in either order, and between no vertex and itself
between-turned : (e : Edge) (v w : ℕ) → is_between v w e ≡ is_between w v e
between-turned e v w = ap (λ t. is_no_loop e && t) (joins-sym e.u e.v v w)

-- listed edges join two vertices in either order
pub joined-turned : (edges : List Edge) (v w : ℕ) → are_joined edges v w ≡ are_joined edges w v
joined-turned [] v w = refl
joined-turned (e ∷ edges) v w = ap₂ (λ s t. s || t) (between-turned e v w) (joined-turned edges v w)

-- no edge is between a vertex and itself
between-itself : (e : Edge) (v : ℕ) → is_between v v e ≡ false
between-itself e v = false_from_ne_true (is_between v v e) (λ h.
    let k = and_parts (is_no_loop e) (joins e.u e.v v v) h in
    let same : e.u ≡ e.v = elim (joins-true e.u e.v v v k.1) [ inl p ↦ sym p.0 ∙ p.1 | inr p ↦ sym p.1 ∙ p.0 ] in
    true≢false (sym k.0 ∙ ap not (eq-eqb e.u e.v same)))

-- no listed edge joins a vertex to itself
pub joined-itself : (edges : List Edge) (v : ℕ) → are_joined edges v v ≡ false
joined-itself [] v = refl
joined-itself (e ∷ edges) v = or_from _ _ (between-itself e v) (joined-itself edges v)

-- in the graph of listed edges those are adjacent whom a listed edge joins
pub adjacent-with_edges : (vertices : ℕ) (edges : List Edge) (v w : ℕ) → adjacent (graph_with vertices edges) v w ≡ are_joined edges v w
adjacent-with_edges vertices edges v w = elim (cases_order v w) [
  | inl e ↦ ap (adjacent (graph_with vertices edges) v) (sym e)
      ∙ (adjacent-self (graph_with vertices edges) v ∙ sym (ap (are_joined edges v) (sym e) ∙ joined-itself edges v))
  | inr o ↦ elim o [
    | inl l ↦ rw (lt-ltb v w l, contains-with vertices edges v w, lt-ltb v w l) refl
    | inr l ↦ rw (le-ltb v w (omega arith), lt-ltb w v l, contains-with vertices edges w v, lt-ltb w v l) (joined-turned edges w v)
  ]
]

-- joined vertices are vertices
pub joined-within : (vertices : ℕ) (edges : List Edge) (v w : ℕ) → All (λ e. is_within vertices e ≡ true) edges → are_joined edges v w ≡ true → w < vertices
joined-within vertices [] v w all h = absurd (false≢true h)
joined-within vertices (e ∷ edges) v w all h = elim (or_cases (is_between v w e) (are_joined edges v w) h) [
  | inl k ↦
      let both = and_parts (ltb e.u vertices) (ltb e.v vertices) (all 0 e (omega arith)) in
      let first : e.u < vertices = ltb-true e.u vertices both.0 in
      let second : e.v < vertices = ltb-true e.v vertices both.1 in
      elim (joins-true e.u e.v v w (and_parts (is_no_loop e) (joins e.u e.v v w) k).1) [ inl p ↦ omega (arith, p.1) | inr p ↦ omega (arith, p.1) ]
  | inr k ↦ joined-within vertices edges v w (All-tail (λ e. is_within vertices e ≡ true) e edges all) k
]

module _ (rows : List (List ℕ)) (edges : List Edge) (each : (v w : ℕ) → member w (row rows v) ≡ are_joined edges v w) where
  -- ascending rows with those whom a listed edge joins are the rows of a graph
  pub adjacency-with : ((v : ℕ) → IsStrictlyIncreasing (row rows v)) → All (λ e. is_within (length rows) e ≡ true) edges → IsAdjacency rows
  adjacency-with ascends all = record {
    ascends = ascends;
    within = λ v w m. joined-within (length rows) edges v w all (sym (each v w) ∙ m);
    irreflexive = λ v. each v v ∙ joined-itself edges v;
    symmetric = λ v w. each v w ∙ (joined-turned edges v w ∙ sym (each w v));
  }

  -- the graph of these rows is that of the listed edges
  pub graph_of-with : graph_of rows ≡ graph_with (length rows) edges
  graph_of-with =
      let same : (graph_of rows).edges ≡ (graph_with (length rows) edges).edges = same_set pair_total pair_exact _ _ (λ q.
      contains-edges rows q.0 q.1 ∙ (ap (λ t. ltb q.0 q.1 && t) (each q.0 q.1) ∙ sym (contains-with (length rows) edges q.0 q.1))) in
      let size : (graph_of rows).size ≡ (graph_with (length rows) edges).size = size-graph_of rows ∙ sym (size-with (length rows) edges) in
      ap₂ (λ (n : ℕ) (e : FinSet pair_cmp). let g : SimpleGraph = record { size = n; edges = e } in g) size same

-- Pairs with the lesser end first are the edges of their graph as they are.
pub pairs-edges : (vertices : ℕ) (pairs : List (ℕ × ℕ)) → All (λ p. (p.0 < p.1) × (p.1 < vertices)) pairs
    → map (λ e. edge e.u e.v) (filter is_no_loop (map edge_of pairs)) ≡ pairs
pairs-edges vertices [] all = refl
pairs-edges vertices (p ∷ pairs) all =
    let first = all 0 p (omega arith) in
    let two : is_no_loop (edge_of p) ≡ true = ap not (ne_eqb p.0 p.1 (λ same. absurd (omega (arith, first.0, same)))) in
    let rest = pairs-edges vertices pairs (All-tail (λ p. (p.0 < p.1) × (p.1 < vertices)) p pairs all) in
    ap (λ (b : Bool). map (λ e. edge e.u e.v) (cond b (edge_of p ∷ filter is_no_loop (map edge_of pairs)) (filter is_no_loop (map edge_of pairs)))) two
    ∙ ap₂ (λ (q : ℕ × ℕ) (t : List (ℕ × ℕ)). q ∷ t) (ap (λ (b : Bool). cond b (p.0, p.1) (p.1, p.0)) (lt-ltb p.0 p.1 first.0)) rest

-- the graph of pairs as listed edges has just the pairs as its edges
pub pairs-graph : (vertices : ℕ) (pairs : List (ℕ × ℕ)) → All (λ p. (p.0 < p.1) × (p.1 < vertices)) pairs
    → graph_with vertices (map edge_of pairs) ≡ record { size = vertices; edges = from_list pairs }
unfolding graph_with
pairs-graph vertices pairs all =
    ap (λ (t : List (ℕ × ℕ)). let g : SimpleGraph = record { size = vertices; edges = from_list t } in g) (pairs-edges vertices pairs all)

-- both ends of each pair as an edge are vertices
pub pairs-within : (vertices : ℕ) (pairs : List (ℕ × ℕ)) → All (λ p. (p.0 < p.1) × (p.1 < vertices)) pairs
    → All (λ e. is_within vertices e ≡ true) (map edge_of pairs)
pairs-within vertices pairs all =
    All-map (λ e. is_within vertices e ≡ true) edge_of pairs (All-weaker (λ p. (p.0 < p.1) × (p.1 < vertices)) (λ p. is_within vertices (edge_of p) ≡ true)
    (λ p h. and_from _ _ (lt-ltb p.0 vertices (omega (arith, h.0, h.1))) (lt-ltb p.1 vertices h.1)) pairs all)

-- Rows with the numbers of the gathered ends are those of the graph with the edges.
module _ (rows : List (List ℕ)) (edges : List Edge) (ends block : List ℕ) (count : length rows ≡ length ends)
    (within : All (λ e. is_within (length ends) e ≡ true) edges)
    (filled : Filled (first_place edges) (ends_at edges) ends block)
    (same : (v w : ℕ) → v < length ends → member w (row rows v) ≡ member w (between (first_of ends v) (get_or ends v 0) block)) where
  -- the part for a vertex begins where its ends begin
  begins : (v : ℕ) → v < length ends → first_of ends v ≡ first_place edges v
  begins zero l = refl
  begins (suc v) l = filled.next_place v (omega arith)

  -- in the row of a vertex are those whom a listed edge joins to it
  pub gathered-each : (v w : ℕ) → member w (row rows v) ≡ are_joined edges v w
  gathered-each v w = elim (cases_lt v (length ends)) [
    | inl l ↦
        same v w l ∙ ap₂ (λ (a b : ℕ). member w (between a b block)) (begins v l) (filled.next_place v l) ∙ ap (member w) (filled.in_place v l)
        ∙ member-ends edges v w
    | inr ge ↦
        ap (member w) (row_past rows v (omega (arith, count)))
        ∙ sym (false_from_ne_true (are_joined edges v w) (λ h.
        absurd (omega (arith, joined-within (length ends) edges w v within (joined-turned edges w v ∙ h)))))
  ]

-- Where the parts of a block begin and end.
pub ends-ordered : (edges : List Edge) (ends block : List ℕ) → Filled (first_place edges) (ends_at edges) ends block → (v : ℕ) → v < length ends
    → (first_of ends v ≤ get_or ends v 0) × (get_or ends v 0 ≡ first_place edges (suc v))
ends-ordered edges ends block f zero l = (omega (arith, f.next_place zero l), f.next_place zero l)
ends-ordered edges ends block f (suc v) l = (omega (arith, f.next_place (suc v) l, f.next_place v (omega arith)), f.next_place (suc v) l)

-- the ends at a vertex end no later than those of all vertices
pub place-within_all : (edges : List Edge) (n v : ℕ) → v < n → first_place edges (suc v) ≤ first_place edges n
place-within_all edges n v l = places-rise edges v n l
