-- The rows with one number less each are those of the graph without the edge.
use Rattle.std.proofs.Common.{◌≡◌, ◌<◌, ◌-◌, ℕ, List, length, true, arith, sym, ap, ◌∙◌}
use Rattle.kc_lists.specs.Lists.{member}
use Rattle.kc_graph.specs.SimpleGraph.{SimpleGraph}
use Rattle.kc_graph.specs.Edges.{without_edge}
use Rattle.kc_graph.specs.Rows.{row, graph_of, HoldsEdges, BothDeleted}
use Rattle.kc_graph.proofs.RowsLemmas.{size-view, adjacent-view}
use Rattle.kc_graph.proofs.Removing.{edge-missing, graph_of-removed}
use Rattle.kc_graph.proofs.Held.{held-removed}
use Rattle.kc_graph.proofs.graph.Graph.remove.Goals as goal

-- Rows that have each vertex, and then lack the edge.
module _ {rows now : List (List ℕ)} {g : SimpleGraph} {u v edges : ℕ} (held : HoldsEdges rows edges) (both : BothDeleted rows now u v)
    (view : graph_of rows ≡ g) (differ : u ≡ v → ⊥) (u_in : u < g.size) (v_in : v < g.size) where
  -- the first end has a row
  row-u : u < length rows
  row-u = omega (arith, size-view rows g view, u_in)

  -- and so has the second
  row-v : v < length rows
  row-v = omega (arith, size-view rows g view, v_in)

  -- they hold one edge less
  held-less : member v (row rows u) ≡ true → HoldsEdges now (edges - 1)
  held-less here = held-removed rows now u v edges differ row-u row-v held both here

  -- and are those of the graph without the edge
  view-less : graph_of now ≡ without_edge g u v
  view-less = graph_of-removed rows now u v differ row-u row-v both ∙ ap (λ (t : SimpleGraph). without_edge t u v) view

pub returns-then-not-has-clause-removed : goal.returns-then-not-has-clause-removed
returns-then-not-has-clause-removed c = edge-missing c.args.self.now c.args.u c.args.v c.requires.differ (sym c.has.ensures ∙ c.if-not-has.true)

pub delete_both-requires-clause-u_in : goal.delete_both-requires-clause-u_in
delete_both-requires-clause-u_in c = omega (arith, size-view c.self.inside.rows c.args.self.now c.self.view_is)

pub delete_both-requires-clause-v_in : goal.delete_both-requires-clause-v_in
delete_both-requires-clause-v_in c = omega (arith, size-view c.self.inside.rows c.args.self.now c.self.view_is)

pub delete_both-requires-clause-here : goal.delete_both-requires-clause-here
delete_both-requires-clause-here c =
    adjacent-view c.self.inside.rows c.args.self.now c.self.view_is c.self.invariant.adjacency c.args.u c.args.v ∙ sym c.has.ensures ∙ c.if-not-has.false

pub invariant_of-self : goal.invariant_of-self
invariant_of-self c =
    held-less c.self.invariant c.delete_both.ensures c.self.view_is c.requires.differ (omega arith) (omega arith)
    (adjacent-view c.self.inside.rows c.args.self.now c.self.view_is c.self.invariant.adjacency c.args.u c.args.v ∙ sym c.has.ensures ∙ c.if-not-has.false)

pub returns-clause-removed : goal.returns-clause-removed
returns-clause-removed c = view-less c.self.invariant c.delete_both.ensures c.self.view_is c.requires.differ (omega arith) (omega arith)
