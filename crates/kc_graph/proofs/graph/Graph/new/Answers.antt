-- Rows without a number are those of the graph without an edge.
use Rattle.std.proofs.Common.{◌≡◌, ℕ, [], List, length, arith, ap, sym, subst, ◌∙◌, replicate}
use Rattle.std.specs.FinSet as set
use Rattle.std.specs.List.{sum_by}
use Rattle.std.proofs.lemmas.List.{length-replicate}
use Rattle.kc_graph.specs.SimpleGraph.{SimpleGraph, pair_cmp}
use Rattle.kc_graph.specs.Rows.{graph_of, IsAdjacency}
use Rattle.kc_graph.proofs.Adding.{sum-none}
use Rattle.kc_graph.proofs.RowsLemmas.{IsAdjacency-none, graph_of-none}
use Rattle.kc_graph.proofs.graph.Graph.new.Goals as goal

pub invariant_of-result : goal.invariant_of-result
invariant_of-result c =
    let n : ℕ = c.args.vertices in
    let e : c.in_ok-rows.rows ≡ replicate n [] = c.in_ok-rows.ensures in
    record {
      adjacency = subst IsAdjacency (sym e) (IsAdjacency-none n);
      few = omega (arith, ap length e, length-replicate {A = List ℕ} n []);
      counted =
          sym (ap (λ (rows : List (List ℕ)). set.len (graph_of rows).edges) e ∙ ap (λ (g : SimpleGraph). set.len g.edges) (graph_of-none n)
          ∙ set.len-empty pair_cmp);
      twice = sym (ap (sum_by length) e ∙ sum-none n);
    }

pub returns : goal.returns
returns c = ap graph_of c.in_ok-rows.ensures ∙ graph_of-none c.args.vertices
