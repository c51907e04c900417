-- An edge less in the rows is an edge less in the graph.
use Rattle.std.proofs.Common.{◌≡◌, ◌<◌, ◌+◌, ◌-◌, ℕ, true, false, cond, not, ◌&&◌, List, length, ltb, sym, ◌∙◌, ap, ap₂}
use Rattle.std.proofs.Common.{inl, inr, arith, true≢false, ltb-true}
use Rattle.std.specs.List.{sum_by}
use Rattle.std.specs.Ordering.{eq_by_cmp}
use Rattle.std.specs.Cmp.{both_ways}
use Rattle.std.specs.FinSet.{FinSet, contains, remove, len, contains-remove, len-remove, same_set}
use Rattle.std.proofs.lemmas.Bool.{cases_Bool, and_parts, and_from, and_left, false_from_ne_true, not_from_false, not_from_true, not-true}
use Rattle.std.proofs.Math.Bool.{and-true}
use Rattle.kc_lists.specs.Lists.{member}
use Rattle.kc_graph.specs.SimpleGraph.{SimpleGraph, adjacent, pair_cmp}
use Rattle.kc_graph.specs.Edges.{edge, without_edge}
use Rattle.kc_graph.specs.Rows.{row, graph_of, IsAdjacency, BothDeleted}
use Rattle.kc_graph.proofs.Ends.{joins, joins-sym, joins-edge, edge-joins, contains-edge}
use Rattle.kc_graph.proofs.RowsLemmas.{contains-edges, adjacent-graph_of, pair_total, pair_exact, same_pair, tied_pair}
use Rattle.kc_graph.proofs.TwoRows.{new-length, same-size, two_rows-ascend, two_rows-hold, two_rows-sum}

module _ (old new : List (List ℕ)) (u v : ℕ) (differ : u ≡ v → ⊥) (lu : u < length old) (lv : v < length old) (both : BothDeleted old new u v) where
  -- a number is in a row where it was, unless the edge joins the two
  kept : (a b : ℕ) → member b (row new a) ≡ (member b (row old a) && not (joins u v a b))
  kept =
      two_rows-hold old new u v both.first both.second both.rows differ lu lv (λ s t. s && not t) and-true both.at_first.kept both.at_second.kept

  -- the rows are still those of a graph
  pub removed-adjacency : IsAdjacency old → IsAdjacency new
  removed-adjacency h = record {
    ascends = two_rows-ascend old new u v both.first both.second both.rows differ lu lv both.at_first.ascends both.at_second.ascends h.ascends;
    within = λ a b m. let k = and_parts (member b (row old a)) (not (joins u v a b)) (sym (kept a b) ∙ m) in
        omega (arith, h.within a b k.0, new-length old new u v both.first both.second both.rows);
    irreflexive = λ a. kept a a ∙ and_left (member a (row old a)) _ (h.irreflexive a);
    symmetric = λ a b. kept a b ∙ ap₂ (λ s t. s && not t) (h.symmetric a b) (joins-sym u v a b) ∙ sym (kept b a);
  }

  -- the graph of the rows has the edges without that one
  pub graph_of-removed : graph_of new ≡ without_edge (graph_of old) u v
  graph_of-removed =
      let edges : (graph_of new).edges ≡ remove (graph_of old).edges (edge u v) = same_set pair_total pair_exact _ _ (λ q.
      let a : ℕ = q.0 in let b : ℕ = q.1 in
      contains-edges new a b ∙ both_ways _ _
      (λ h.
      let p = and_parts (ltb a b) (member b (row new a)) h in
      let k = and_parts (member b (row old a)) (not (joins u v a b)) (sym (kept a b) ∙ p.1) in
      let other : eq_by_cmp pair_cmp (a, b) (edge u v) ≡ false = false_from_ne_true _
      (λ t. true≢false (sym (edge-joins u v a b differ (same_pair (a, b) (edge u v) t)).1 ∙ not-true (joins u v a b) k.1)) in
      contains-remove pair_total (graph_of old).edges (edge u v) (a, b) ∙ and_from _ _ (not_from_false _ other) (contains-edges old a b ∙ and_from _ _ p.0 k.0))
      (λ h.
      let p =
      and_parts (not (eq_by_cmp pair_cmp (a, b) (edge u v))) (contains (graph_of old).edges (a, b))
      (sym (contains-remove pair_total (graph_of old).edges (edge u v) (a, b)) ∙ h) in
      let k = and_parts (ltb a b) (member b (row old a)) (sym (contains-edges old a b) ∙ p.1) in
      let apart : joins u v a b ≡ false = false_from_ne_true _
      (λ j.
      true≢false
      (sym (tied_pair (a, b) (edge u v) (joins-edge u v a b differ (ltb-true a b k.0) j))
      ∙ not-true (eq_by_cmp pair_cmp (a, b) (edge u v)) p.0)) in
      and_from _ _ k.0 (kept a b ∙ and_from _ _ k.1 (not_from_false _ apart)))) in
      let size : (graph_of new).size ≡ (graph_of old).size = same-size old new u v both.first both.second both.rows in
      ap₂ (λ (n : ℕ) (e : FinSet pair_cmp). let g : SimpleGraph = record { size = n; edges = e } in g) size edges

  -- there are two entries less in all rows
  pub sum-removed : sum_by length new + 2 ≡ sum_by length old
  sum-removed =
      omega (arith, two_rows-sum old new u v both.first both.second both.rows differ lu lv, both.at_first.shorter, both.at_second.shorter)

  -- there is one edge less, where the two were adjacent
  pub len-removed : IsAdjacency old → member v (row old u) ≡ true → len (graph_of new).edges ≡ len (graph_of old).edges - 1
  len-removed h here =
      let there : contains (graph_of old).edges (edge u v) ≡ true = contains-edge (graph_of old) u v differ ∙ adjacent-graph_of old h u v ∙ here in
      ap (λ (g : SimpleGraph). len g.edges) graph_of-removed ∙ len-remove pair_total (graph_of old).edges (edge u v)
      ∙ ap (λ t. cond t (len (graph_of old).edges - 1) (len (graph_of old).edges)) there

-- a graph that lacks an edge is the graph without that edge
pub edge-missing : (g : SimpleGraph) (u v : ℕ) → (u ≡ v → ⊥) → adjacent g u v ≡ false → g ≡ without_edge g u v
edge-missing g u v differ a =
    let absent : contains g.edges (edge u v) ≡ false = contains-edge g u v differ ∙ a in
    let same : g.edges ≡ remove g.edges (edge u v) = same_set pair_total pair_exact _ _ (λ q. sym (contains-remove pair_total g.edges (edge u v) q ∙
    elim (cases_Bool (eq_by_cmp pair_cmp q (edge u v))) [
      | inl t ↦ and_left _ _ (not_from_true _ t) ∙ sym (ap (contains g.edges) (same_pair q (edge u v) t) ∙ absent)
      | inr f ↦ ap (λ b. not b && contains g.edges q) f
    ])) in
    ap (λ (e : FinSet pair_cmp). let x : SimpleGraph = record { size = g.size; edges = e } in x) same
