-- Rows of more vertices, which have no neighbours yet.
use Rattle.std.proofs.Common.{◌≡◌, ◌≤◌, ◌<◌, ◌+◌, ◌-◌, ◌^◌, ℕ, zero, suc, true, List, [], ◌∷◌, ◌++◌, length, replicate, refl, sym, ap, ◌∙◌, subst}
use Rattle.std.proofs.Common.{arith, length-append}
use Rattle.std.specs.Prelude.{map, nat_lt, sum_by}
use Rattle.std.specs.List.{filter}
use Rattle.std.specs.FinSet.{from_list}
use Rattle.std.specs.FinSet as set
use Rattle.std.specs.List.Sorted.{IsStrictlyIncreasing}
use Rattle.std.proofs.lemmas.List.{length-replicate}
use Rattle.std.proofs.lemmas.List.Folds.{sum_by-replicate}
use Rattle.std.proofs.lemmas.List.Sums.{sum_by-append}
use Rattle.kc_lists.specs.Lists.{member}
use Rattle.kc_graph.specs.SimpleGraph.{SimpleGraph}
use Rattle.kc_graph.specs.Rows.{HoldsEdges, IsAdjacency, graph_of, pairs_from, row}
use Rattle.kc_graph.specs.Growing.{HasItsEnds, with_vertices}
use Rattle.kc_graph.proofs.RowsLemmas.{adjacent-view, pairs_from-none, row-replicate, size-view}

-- no neighbours
abbrev nobody : List ℕ
nobody = []

-- rows that are empty change no row
row-more : (rows : List (List ℕ)) (n v : ℕ) → row (rows ++ replicate n []) v ≡ row rows v
row-more [] n v = row-replicate n v
row-more (r ∷ rows) n zero = refl
row-more (r ∷ rows) n (suc v) = row-more rows n v

-- rows that are empty add no pair
pairs-more : (first : ℕ) (rows : List (List ℕ)) (n : ℕ) → pairs_from first (rows ++ replicate n []) ≡ pairs_from first rows
pairs-more first [] n = pairs_from-none first n
pairs-more first (r ∷ rows) n = ap (λ (ps : List (ℕ × ℕ)). map (λ w. (first, w)) (filter (nat_lt first) r) ++ ps) (pairs-more (first + 1) rows n)

-- the graph of more rows that are empty
pub graph-more : (rows : List (List ℕ)) (n : ℕ) → graph_of (rows ++ replicate n []) ≡ with_vertices (length rows + n) (graph_of rows)
unfolding graph_of
graph-more rows n = λ i. record {
  size = (length-append rows (replicate n []) ∙ ap (λ (k : ℕ). length rows + k) (length-replicate n [])) i;
  edges = from_list (pairs-more 0 rows n i);
}

-- rows that are empty add no entry
sum-more : (rows : List (List ℕ)) (n : ℕ) → sum_by length (rows ++ replicate n nobody) ≡ sum_by length rows
sum-more rows n = omega (arith, sum_by-append length rows (replicate n nobody), sum_by-replicate length n nobody)

-- the rows stay an adjacency
adjacency-more : (rows : List (List ℕ)) (n : ℕ) → IsAdjacency rows → IsAdjacency (rows ++ replicate n [])
adjacency-more rows n h = record {
  ascends = λ v. subst IsStrictlyIncreasing (sym (row-more rows n v)) (h.ascends v);
  within = λ v w m. omega (arith, h.within v w (sym (ap (member w) (row-more rows n v)) ∙ m), length-append rows (replicate n []));
  irreflexive = λ v. ap (member v) (row-more rows n v) ∙ h.irreflexive v;
  symmetric = λ v w. ap (member w) (row-more rows n v) ∙ (h.symmetric v w ∙ sym (ap (member v) (row-more rows n w)));
}

-- the rows with more that are empty hold the same edges
pub holds-more : (rows : List (List ℕ)) (n edges : ℕ) → HoldsEdges rows edges → length rows + n < 2 ^ 32 → HoldsEdges (rows ++ replicate n []) edges
holds-more rows n edges h few = record {
  adjacency = adjacency-more rows n h.adjacency;
  few = omega (arith, few, length-append rows (replicate n []), length-replicate n nobody);
  counted = h.counted ∙ sym (ap (λ (g : SimpleGraph). set.len g.edges) (graph-more rows n));
  twice = h.twice ∙ sym (sum-more rows n);
}

-- each end of an edge of the rows is a vertex
pub ends-view : (rows : List (List ℕ)) (g : SimpleGraph) → graph_of rows ≡ g → IsAdjacency rows → HasItsEnds g
ends-view rows g is h v w near =
    let here : member v (row rows w) ≡ true = sym (h.symmetric v w) ∙ (adjacent-view rows g is h v w ∙ near) in
    omega (arith, h.within w v here, size-view rows g is)

-- the rows with as many more as make it so many, in one
pub rows-grown : {rows rows' none : List (List ℕ)} {edges vertices : ℕ} {g : SimpleGraph} (len : ℕ) → rows' ≡ rows ++ none
    → none ≡ replicate (vertices - len) [] → len ≡ length rows → HoldsEdges rows edges → graph_of rows ≡ g → g.size ≤ vertices → vertices < 2 ^ 32
    → HoldsEdges rows' edges × (graph_of rows' ≡ with_vertices vertices g)
rows-grown {rows} {rows'} {none} {edges} {vertices} {g} len is none-is len-is h view fits small =
    let all : rows' ≡ rows ++ replicate (vertices - len) [] = is ∙ ap (λ (z : List (List ℕ)). rows ++ z) none-is in
    let many : length rows + (vertices - len) ≡ vertices = omega (arith, size-view rows g view) in (
      subst (λ (z : List (List ℕ)). HoldsEdges z edges) (sym all) (holds-more rows (vertices - len) edges h (omega arith)),
      ap graph_of all ∙ (graph-more rows (vertices - len) ∙ λ i. with_vertices (many i) (view i)),
    )
