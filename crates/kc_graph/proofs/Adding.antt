-- An edge more in the rows is an edge more in the graph.
use Rattle.std.proofs.Common.{◌≡◌, ◌≤◌, ◌<◌, ◌+◌, ◌*◌, ℕ, Bool, true, false, cond, ◌||◌, List, [], length, get_or, ltb, refl, sym}
use Rattle.std.proofs.Common.{◌∙◌, ap, inl, inr, arith, lt-ltb, ltb-true, ap₂, replicate}
use Rattle.std.specs.List.{sum_by, All}
use Rattle.std.specs.Ordering.{eq_by_cmp}
use Rattle.std.specs.Cmp.{both_ways}
use Rattle.std.specs.FinSet.{FinSet, contains, insert, len, contains-insert, len-insert, same_set}
use Rattle.std.proofs.lemmas.List.Sums.{sum_by-le}
use Rattle.std.proofs.lemmas.Bool.{cases_Bool, or_cases, or_left, or_right, or_from, and_parts, and_from, false_from_ne_true}
use Rattle.std.proofs.Math.Bool.{or-false}
use Rattle.kc_lists.specs.Lists.{below, member}
use Rattle.kc_graph.specs.SimpleGraph.{SimpleGraph, adjacent, pair_cmp}
use Rattle.kc_graph.specs.Edges.{edge, with_edge}
use Rattle.kc_graph.specs.Rows.{row, graph_of, IsAdjacency, BothInserted}
use Rattle.kc_lists.proofs.Counting.{member-below, length-below, count-all, count-le, Distinct-from_pairs}
use Rattle.std.proofs.lemmas.List.Folds.{sum_by-replicate}
use Rattle.std.proofs.lemmas.List.Elements.{All-from_get_or}
use Rattle.std.proofs.lemmas.List.Kept.{AllPairs-from_increasing}
use Rattle.std.proofs.Math.Nat.{mul-le-mul_left}
use Rattle.kc_graph.proofs.Ends.{joins, joins-true, joins-sym, joins-edge, edge-joins, contains-edge}
use Rattle.kc_graph.proofs.RowsLemmas.{contains-edges, adjacent-graph_of, pair_total, pair_exact, same_pair, tied_pair}
use Rattle.kc_graph.proofs.TwoRows.{new-length, same-size, two_rows-ascend, two_rows-hold, two_rows-sum}

module _ (old new : List (List ℕ)) (u v : ℕ) (differ : u ≡ v → ⊥) (lu : u < length old) (lv : v < length old) (both : BothInserted old new u v) where
  -- a number is in a row where it was, and where the edge joins the two
  gained : (a b : ℕ) → member b (row new a) ≡ (member b (row old a) || joins u v a b)
  gained =
      two_rows-hold old new u v both.first both.second both.rows differ lu lv (λ s t. s || t) or-false both.at_first.gained both.at_second.gained

  -- the rows are still those of a graph
  pub added-adjacency : IsAdjacency old → IsAdjacency new
  added-adjacency h = record {
    ascends = two_rows-ascend old new u v both.first both.second both.rows differ lu lv both.at_first.ascends both.at_second.ascends h.ascends;
    within = λ a b m. let count : length new ≡ length old = new-length old new u v both.first both.second both.rows in
        elim (or_cases _ _ (sym (gained a b) ∙ m)) [
          | inl k ↦ omega (arith, h.within a b k, count)
          | inr k ↦ elim (joins-true u v a b k) [ inl p ↦ omega (arith, p.1, count) | inr p ↦ omega (arith, p.1, count) ]
        ];
    irreflexive = λ a. gained a a ∙ or_from (member a (row old a)) (joins u v a a) (h.irreflexive a)
        (false_from_ne_true (joins u v a a) (λ k. elim (joins-true u v a a k) [ inl p ↦ differ (sym p.0 ∙ p.1) | inr p ↦ differ (sym p.1 ∙ p.0) ]));
    symmetric = λ a b. gained a b ∙ ap₂ (λ s t. s || t) (h.symmetric a b) (joins-sym u v a b) ∙ sym (gained b a);
  }

  -- the graph of the rows has the edge beside the others
  pub graph_of-added : graph_of new ≡ with_edge (graph_of old) u v
  graph_of-added =
      let edges : (graph_of new).edges ≡ insert (graph_of old).edges (edge u v) = same_set pair_total pair_exact _ _ (λ q.
      let a : ℕ = q.0 in let b : ℕ = q.1 in
      contains-edges new a b ∙ both_ways _ _
      (λ h.
      let p = and_parts (ltb a b) (member b (row new a)) h in
      contains-insert pair_total (graph_of old).edges (edge u v) (a, b) ∙ elim (or_cases _ _ (sym (gained a b) ∙ p.1)) [
        | inl k ↦ or_right (eq_by_cmp pair_cmp (a, b) (edge u v)) _ (contains-edges old a b ∙ and_from _ _ p.0 k)
        | inr k ↦ or_left _ _ (tied_pair (a, b) (edge u v) (joins-edge u v a b differ (ltb-true a b p.0) k))
      ])
      (λ h. elim (or_cases _ _ (sym (contains-insert pair_total (graph_of old).edges (edge u v) (a, b)) ∙ h)) [
        | inl k ↦
            let p = edge-joins u v a b differ (same_pair (a, b) (edge u v) k) in
            and_from _ _ (lt-ltb a b p.0) (gained a b ∙ or_right (member b (row old a)) _ p.1)
        | inr k ↦ let p = and_parts (ltb a b) (member b (row old a)) (sym (contains-edges old a b) ∙ k) in and_from _ _ p.0 (gained a b ∙ or_left _ _ p.1)
      ])) in
      let size : (graph_of new).size ≡ (graph_of old).size = same-size old new u v both.first both.second both.rows in
      ap₂ (λ (n : ℕ) (e : FinSet pair_cmp). let g : SimpleGraph = record { size = n; edges = e } in g) size edges

  -- there are two entries more in all rows
  pub sum-added : sum_by length new ≡ sum_by length old + 2
  sum-added =
      omega (arith, two_rows-sum old new u v both.first both.second both.rows differ lu lv, both.at_first.longer, both.at_second.longer)

  -- there is one edge more, where the two were not adjacent
  pub len-added : IsAdjacency old → member v (row old u) ≡ false → len (graph_of new).edges ≡ len (graph_of old).edges + 1
  len-added h lacks =
      let absent : contains (graph_of old).edges (edge u v) ≡ false = contains-edge (graph_of old) u v differ ∙ adjacent-graph_of old h u v ∙ lacks in
      ap (λ (g : SimpleGraph). len g.edges) graph_of-added ∙ len-insert pair_total (graph_of old).edges (edge u v)
      ∙ ap (λ t. cond t (len (graph_of old).edges) (len (graph_of old).edges + 1)) absent

-- rows without a neighbour have no entries
pub sum-none : (n : ℕ) → sum_by (length {A = ℕ}) (replicate n []) ≡ 0
sum-none n = sum_by-replicate (length {A = ℕ}) n [] ∙ omega arith

-- there are few enough edges to be counted
pub few_edges : (rows : List (List ℕ)) → IsAdjacency rows → length rows < 4294967296 → sum_by (length {A = ℕ}) rows < 18446744073709551616
few_edges rows h small =
    let n : ℕ = length rows in
    let each : All (λ r. length r ≤ n) rows = All-from_get_or (λ (r : List ℕ). length r ≤ n) rows [] (λ i l.
    let yes : ℕ → Bool = λ _. true in
    omega (
      arith,
      count-all yes (row rows i) (λ x _. refl),
      count-all yes (below n) (λ x _. refl),
      length-below n,
      count-le yes (row rows i) (below n)
          (Distinct-from_pairs (row rows i)
          (λ a b d lt lb e.
          let k : get_or (row rows i) a d < get_or (row rows i) b d = AllPairs-from_increasing (row rows i) (h.ascends i) a b d lt lb in
          absurd (omega arith)))
          (λ x m _. member-below x n (h.within i x m)),
    )) in
    let most : sum_by (length {A = ℕ}) rows ≤ n * n = sum_by-le (length {A = ℕ}) n rows each in
    let square : n * n ≤ n * 4294967295 = mul-le-mul_left n (omega arith) in
    omega (arith, most, square)

-- a graph that has an edge is the graph with that edge
pub edge-present : (g : SimpleGraph) (u v : ℕ) → (u ≡ v → ⊥) → adjacent g u v ≡ true → g ≡ with_edge g u v
edge-present g u v differ a =
    let there : contains g.edges (edge u v) ≡ true = contains-edge g u v differ ∙ a in
    let same : g.edges ≡ insert g.edges (edge u v) = same_set pair_total pair_exact _ _ (λ q. sym (contains-insert pair_total g.edges (edge u v) q ∙
    elim (cases_Bool (eq_by_cmp pair_cmp q (edge u v))) [
      | inl t ↦ or_left _ _ t ∙ sym (ap (contains g.edges) (same_pair q (edge u v) t) ∙ there)
      | inr f ↦ ap (λ b. b || contains g.edges q) f
    ])) in
    ap (λ (e : FinSet pair_cmp). let x : SimpleGraph = record { size = g.size; edges = e } in x) same
