-- The last updates of edges leave the graph that all updates leave, one by one.
use Rattle.std.proofs.Common.{◌≡◌, ◌<◌, ℕ, true, false, cond, List, [], ◌∷◌, map, refl, sym, ap, ◌∙◌, inl, inr}
use Rattle.std.specs.Prelude.{All}
use Rattle.std.specs.List.{list_any}
use Rattle.std.proofs.lemmas.Bool.{false≢true, or_cases, or_left, or_parts, or_right}
use Rattle.kc_graph.specs.SimpleGraph.{SimpleGraph}
use Rattle.kc_graph.specs.Edges.{with_edge, without_edge}
use Rattle.kc_graph.specs.declared.update.Update.{Update}
use Rattle.kc_graph.proofs.RowsLemmas.{tied_pair}
use Rattle.kc_table.specs.declared.entry.Entry.{Entry}
use Rattle.kc_table.specs.Edges.{after_entries}
use Rattle.kc_text.specs.Inputs.{edge_of, parts_of}
use Rattle.kc_text.specs.LastUpdates.{last_of_edges, same_edge}
use Rattle.kc_text.proofs.LastOfEdges.{ends-from_same_edge, last-batch, last-names, same_edge-from_ends}
use Rattle.kc_batch_effects.specs.Batches.{graph_after_batch, graph_after_update}
use Rattle.kc_batch_effects.specs.Entered.{IsOrderOf}
use Rattle.kc_batch_effects.specs.Updates.{after_update, after_updates}
use Rattle.kc_batch_effects.proofs.Applying.{Spares, graph_after_batch-again, graph_after_batch-first, graph_after_batch-nil, graph_after_update-add}
use Rattle.kc_batch_effects.proofs.Applying.{graph_after_update-remove}
use Rattle.kc_batch_effects.proofs.Applying.{names_edge}
use Rattle.kc_batch_effects.proofs.InAnyOrder.{leaves-its-graph}

-- an update that is made is a single update more
one-update : (g : SimpleGraph) (x : Update) → after_update g x ≡ graph_after_update g (parts_of x)
one-update g x =
    elim x.add as (λ b. cond b (with_edge g x.u x.v) (without_edge g x.u x.v) ≡ graph_after_update g (record { add = b; u = x.u; v = x.v })) [
      | true ↦ graph_after_update-add g x.u x.v x.ordered
      | false ↦ graph_after_update-remove g x.u x.v x.ordered
    ]

-- updates that are not of the edge of an update spare it
spare-from : (x : Update) (updates : List Update) → list_any (same_edge x) updates ≡ false → Spares (edge_of x) (map parts_of updates)
spare-from x [] none = tt
spare-from x (y ∷ updates) none =
    let parts = or_parts (same_edge x y) (list_any (same_edge x) updates) none in
    ((λ e. false≢true (sym parts.0 ∙ same_edge-from_ends x y (sym e))), spare-from x updates parts.1)

-- updates of which one is of the edge of an update name that edge
names-from : (x : Update) (updates : List Update) → list_any (same_edge x) updates ≡ true → names_edge (edge_of x) (map parts_of updates) ≡ true
names-from x [] some = some
names-from x (y ∷ updates) some = elim (or_cases (same_edge x y) (list_any (same_edge x) updates) some) [
  | inl same ↦ or_left _ (names_edge (edge_of x) (map parts_of updates)) (tied_pair (edge_of x) (edge_of y) (ends-from_same_edge x y same))
  | inr later ↦ or_right _ (names_edge (edge_of x) (map parts_of updates)) (names-from x updates later)
]

-- the last updates of edges leave what all leave
pub last-leave : (g : SimpleGraph) (updates : List Update) → after_updates g updates ≡ graph_after_batch g (map parts_of (last_of_edges updates))
last-leave g [] = sym (graph_after_batch-nil g)
last-leave g (x ∷ rest) =
    let made : after_updates g (x ∷ rest) ≡ graph_after_batch (graph_after_update g (parts_of x)) (map parts_of (last_of_edges rest)) =
    ap (λ (h : SimpleGraph). after_updates h rest) (one-update g x) ∙ last-leave (graph_after_update g (parts_of x)) rest in
    elim (list_any (same_edge x) rest) as (λ b. list_any (same_edge x) rest ≡ b
    → after_updates g (x ∷ rest) ≡ graph_after_batch g (map parts_of (cond b (last_of_edges rest) (x ∷ last_of_edges rest)))) [
      | true ↦ λ again. made ∙ graph_after_batch-again g (parts_of x) (map parts_of (last_of_edges rest))
          (names-from x (last_of_edges rest) (last-names x rest ∙ again))
      | false ↦ λ none. made ∙ graph_after_batch-first g (parts_of x) (map parts_of (last_of_edges rest))
          (spare-from x (last_of_edges rest) (last-names x rest ∙ none))
    ] refl

-- so do entries that are these last updates, in any order
pub last-leave_in_any_order : (g : SimpleGraph) (vertices first : ℕ) (updates : List Update) (made : List Entry)
    → All (λ update. update.v < vertices) updates → IsOrderOf first (last_of_edges updates) made → after_entries g made ≡ after_updates g updates
last-leave_in_any_order g vertices first updates made within order =
    leaves-its-graph first vertices (last_of_edges updates) (last-batch vertices updates within) g made order ∙ sym (last-leave g updates)
