-- The rows with one number more each are those of the graph with the edge.
use Rattle.std.proofs.Common.{◌≡◌, ◌<◌, ◌+◌, ℕ, List, length, false, arith, sym, ap, ◌∙◌}
use Rattle.kc_lists.specs.Lists.{member}
use Rattle.kc_graph.specs.SimpleGraph.{SimpleGraph}
use Rattle.kc_graph.specs.Edges.{with_edge}
use Rattle.kc_graph.specs.Rows.{row, graph_of, HoldsEdges, BothInserted}
use Rattle.kc_graph.proofs.RowsLemmas.{size-view, adjacent-view}
use Rattle.kc_graph.proofs.Adding.{graph_of-added, few_edges, edge-present}
use Rattle.kc_graph.proofs.Held.{held-added}
use Rattle.kc_graph.proofs.graph.Graph.add.Goals as goal

-- Rows that have each vertex, and then have the edge.
module _ {rows now : List (List ℕ)} {g : SimpleGraph} {u v edges : ℕ} (held : HoldsEdges rows edges) (both : BothInserted rows now u v)
    (view : graph_of rows ≡ g) (differ : u ≡ v → ⊥) (u_in : u < g.size) (v_in : v < g.size) where
  -- the first end has a row
  row-u : u < length rows
  row-u = omega (arith, size-view rows g view, u_in)

  -- and so has the second
  row-v : v < length rows
  row-v = omega (arith, size-view rows g view, v_in)

  -- they hold one edge more
  held-more : member v (row rows u) ≡ false → HoldsEdges now (edges + 1)
  held-more lacks = held-added rows now u v edges differ row-u row-v held both lacks

  -- and are those of the graph with the edge
  view-more : graph_of now ≡ with_edge g u v
  view-more = graph_of-added rows now u v differ row-u row-v both ∙ ap (λ (t : SimpleGraph). with_edge t u v) view

pub returns-then-has-clause-ok : goal.returns-then-has-clause-ok
returns-then-has-clause-ok c = edge-present c.args.self.now c.args.u c.args.v c.requires.differ (sym c.has.ensures ∙ c.if-has.true)

pub insert_both-requires-clause-u_in : goal.insert_both-requires-clause-u_in
insert_both-requires-clause-u_in c = omega (arith, size-view c.self.inside.rows c.args.self.now c.self.view_is)

pub insert_both-requires-clause-v_in : goal.insert_both-requires-clause-v_in
insert_both-requires-clause-v_in c = omega (arith, size-view c.self.inside.rows c.args.self.now c.self.view_is)

pub insert_both-requires-clause-lacks : goal.insert_both-requires-clause-lacks
insert_both-requires-clause-lacks c =
    adjacent-view c.self.inside.rows c.args.self.now c.self.view_is c.self.invariant.adjacency c.args.u c.args.v ∙ sym c.has.ensures ∙ c.if-has.false

pub overflow_add-self : goal.overflow_add-self
overflow_add-self c = omega (arith, c.self.invariant.twice, few_edges c.self.inside.rows c.self.invariant.adjacency c.self.invariant.few)

pub invariant_of-self-2 : goal.invariant_of-self-2
invariant_of-self-2 c =
    held-more c.self.invariant c.in_ok-insert_both.ensures.ok c.self.view_is c.requires.differ (omega arith) (omega arith)
    (adjacent-view c.self.inside.rows c.args.self.now c.self.view_is c.self.invariant.adjacency c.args.u c.args.v ∙ sym c.has.ensures ∙ c.if-has.false)

pub returns-clause-ok : goal.returns-clause-ok
returns-clause-ok c = view-more c.self.invariant c.in_ok-insert_both.ensures.ok c.self.view_is c.requires.differ (omega arith) (omega arith)
