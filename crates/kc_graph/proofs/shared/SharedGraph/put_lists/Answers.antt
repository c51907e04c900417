-- The rows with the lists after the update are those of the graph after it.
use Rattle.std.proofs.Common.{◌≡◌, ◌≤◌, ◌<◌, ◌+◌, ◌-◌, ℕ, Bool, true, false, cond, List, length, set, arith, sym, ap, ◌∙◌}
use Rattle.kc_graph.specs.SimpleGraph.{SimpleGraph}
use Rattle.kc_graph.specs.Edges.{with_edge, without_edge}
use Rattle.kc_graph.specs.Rows.{graph_of, HoldsEdges}
use Rattle.kc_graph.specs.Plans.{is_applied, updated}
use Rattle.kc_graph.specs.Sharing.{AreListsAfter}
use Rattle.kc_graph.specs.declared.update.Update.{Update}
use Rattle.kc_graph.specs.declared.shared.ListsAfter.{ListsAfter}
use Rattle.kc_graph.proofs.Adding.{graph_of-added, few_edges}
use Rattle.kc_graph.proofs.Removing.{graph_of-removed}
use Rattle.kc_graph.proofs.Held.{held-added, held-removed, some_edge}
use Rattle.kc_graph.proofs.RowsLemmas.{size-view, adjacent-view}
use Rattle.kc_graph.proofs.SharedLists.{both-added, both-removed}
use Rattle.kc_graph.proofs.shared.SharedGraph.put_lists.Goals as goal

-- The rows of a graph before an update that changes it, and the lists of its ends after it.
module _ {update : Update} {rows : List (List ℕ)} {edges : ℕ} {g : SimpleGraph} {lists : ListsAfter} (held : HoldsEdges rows edges)
    (view : graph_of rows ≡ g) (v_in : update.v < g.size) (applied : is_applied update g ≡ true) (after : AreListsAfter update g lists) where
  -- the rows with both lists put in
  abbrev put : List (List ℕ)
  put = set (set rows update.u lists.first) update.v lists.second

  -- the ends differ
  differ : update.u ≡ update.v → ⊥
  differ e = absurd (omega (arith, e, update.ordered))

  -- the second end has a row
  row-v : update.v < length rows
  row-v = omega (arith, size-view rows g view, v_in)

  -- and so has the first
  row-u : update.u < length rows
  row-u = omega (arith, row-v, update.ordered)

  -- with an edge that comes the rows hold one edge more
  put-more : update.add ≡ true → HoldsEdges put (edges + 1)
  put-more add =
      let both = both-added update rows g view held.adjacency lists applied after add in
      held-added rows put update.u update.v edges differ row-u row-v held both.1 (adjacent-view rows g view held.adjacency update.u update.v ∙ both.0)

  -- with an edge that goes they hold one less
  put-less : update.add ≡ false → HoldsEdges put (edges - 1)
  put-less gone =
      let both = both-removed update rows g view held.adjacency lists applied after gone in
      held-removed rows put update.u update.v edges differ row-u row-v held both.1 (adjacent-view rows g view held.adjacency update.u update.v ∙ both.0)

  -- where an edge goes, there was one
  put-some : update.add ≡ false → 1 ≤ edges
  put-some gone =
      some_edge rows put update.u update.v edges differ row-u row-v held (both-removed update rows g view held.adjacency lists applied after gone).1

  -- with an edge that comes the rows are those of the graph after the update
  view-more : update.add ≡ true → graph_of put ≡ updated update g
  view-more add =
      graph_of-added rows put update.u update.v differ row-u row-v (both-added update rows g view held.adjacency lists applied after add).1
      ∙ ap (λ (t : SimpleGraph). with_edge t update.u update.v) view
      ∙ sym (ap (λ (b : Bool). cond b (with_edge g update.u update.v) (without_edge g update.u update.v)) add)

  -- and so they are with an edge that goes
  view-less : update.add ≡ false → graph_of put ≡ updated update g
  view-less gone =
      graph_of-removed rows put update.u update.v differ row-u row-v (both-removed update rows g view held.adjacency lists applied after gone).1
      ∙ ap (λ (t : SimpleGraph). without_edge t update.u update.v) view
      ∙ sym (ap (λ (b : Bool). cond b (with_edge g update.u update.v) (without_edge g update.u update.v)) gone)

pub index_mut-requires : goal.index_mut-requires
index_mut-requires c = omega (arith, size-view c.self.inside.rows.items c.args.self.now c.self.view_is, c.requires.vertices, c.args.update.ordered)

pub index_mut-requires-2 : goal.index_mut-requires-2
index_mut-requires-2 c = omega (arith, size-view c.self.inside.rows.items c.args.self.now c.self.view_is, c.requires.vertices)

pub overflow_add-self : goal.overflow_add-self
overflow_add-self c = omega (arith, c.self.invariant.twice, few_edges c.self.inside.rows.items c.self.invariant.adjacency c.self.invariant.few)

pub invariant_of-self : goal.invariant_of-self
invariant_of-self c = put-more c.self.invariant c.self.view_is c.requires.vertices c.requires.applied c.requires.after c.if-update.true

pub invariant_of-self-else-update : goal.invariant_of-self-else-update
invariant_of-self-else-update c = put-less c.self.invariant c.self.view_is c.requires.vertices c.requires.applied c.requires.after c.if-update.false

pub overflow_sub-self : goal.overflow_sub-self
overflow_sub-self c = put-some c.self.invariant c.self.view_is c.requires.vertices c.requires.applied c.requires.after c.if-update.false

pub returns-then-update : goal.returns-then-update
returns-then-update c = view-more c.self.invariant c.self.view_is c.requires.vertices c.requires.applied c.requires.after c.if-update.true

pub returns-else-update : goal.returns-else-update
returns-else-update c = view-less c.self.invariant c.self.view_is c.requires.vertices c.requires.applied c.requires.after c.if-update.false
