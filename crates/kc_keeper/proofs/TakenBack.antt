-- Updates that are taken back: the newest first, each turned round.
use Rattle.std.proofs.Common.{◌≡◌, ℕ, Bool, true, false, not, ◌&&◌, List, [], ◌∷◌, ◌++◌, cond, map, refl, sym, ap, ◌∙◌, subst, inl, inr, arith}
use Rattle.std.specs.Prelude.{◌||◌, reverse}
use Rattle.std.specs.Ordering.{eq_by_cmp}
use Rattle.std.specs.FinSet.{FinSet, contains, insert, remove, contains-insert, contains-remove, same_set}
use Rattle.std.proofs.lemmas.Bool.{cases_Bool}
use Rattle.std.proofs.lemmas.List.{map-append}
use mathlib.Core.List.{reverse-cons}
use Rattle.kc_graph.specs.SimpleGraph.{SimpleGraph, adjacent, pair_cmp}
use Rattle.kc_graph.specs.Edges.{edge, with_edge, without_edge}
use Rattle.kc_graph.specs.Plans.{is_applied, updated}
use Rattle.kc_graph.specs.declared.update.Update.{Update}
use Rattle.kc_graph.proofs.Adding.{edge-present}
use Rattle.kc_graph.proofs.Removing.{edge-missing}
use Rattle.kc_graph.proofs.RowsLemmas.{pair_total, pair_exact}
use Rattle.kc_keeper.specs.Batches.{applied_in_turn, inverse_of, made_in_turn, opposite}
use Rattle.kc_keeper.proofs.InTurn.{made-push}

-- One update. ------------------------------------------------------------------------------------------

-- a graph with these edges and the vertices of another
abbrev graph_of_edges : SimpleGraph → FinSet pair_cmp → SimpleGraph
graph_of_edges g edges = record { size = g.size; edges = edges }

removes-either : (e c : Bool) → (not e && (e || c)) ≡ (not e && c)
removes-either true c = refl
removes-either false c = refl

adds-either : (e c : Bool) → (e || (not e && c)) ≡ (e || c)
adds-either true c = refl
adds-either false c = refl

-- an edge that was added and removed is an edge that was removed
without-with : (g : SimpleGraph) (u v : ℕ) → without_edge (with_edge g u v) u v ≡ without_edge g u v
without-with g u v =
    let e : ℕ × ℕ = edge u v in
    ap (graph_of_edges g) (same_set pair_total pair_exact (remove (insert g.edges e) e) (remove g.edges e) (λ q.
    contains-remove pair_total (insert g.edges e) e q
    ∙ (ap (λ (b : Bool). not (eq_by_cmp pair_cmp q e) && b) (contains-insert pair_total g.edges e q)
    ∙ (removes-either (eq_by_cmp pair_cmp q e) (contains g.edges q) ∙ sym (contains-remove pair_total g.edges e q)))))

-- an edge that was removed and added is an edge that was added
with-without : (g : SimpleGraph) (u v : ℕ) → with_edge (without_edge g u v) u v ≡ with_edge g u v
with-without g u v =
    let e : ℕ × ℕ = edge u v in
    ap (graph_of_edges g) (same_set pair_total pair_exact (insert (remove g.edges e) e) (insert g.edges e) (λ q.
    contains-insert pair_total (remove g.edges e) e q
    ∙ (ap (λ (b : Bool). eq_by_cmp pair_cmp q e || b) (contains-remove pair_total g.edges e q)
    ∙ (adds-either (eq_by_cmp pair_cmp q e) (contains g.edges q) ∙ sym (contains-insert pair_total g.edges e q)))))

not-false : (b : Bool) → not b ≡ false → b ≡ true
not-false true h = refl
not-false false h = absurd (cc h)

not-true : (b : Bool) → not b ≡ true → b ≡ false
not-true true h = absurd (cc h)
not-true false h = refl

-- an update that is not applied leaves the graph
left-by : (b : Bool) (g : SimpleGraph) (u v : ℕ) → (u ≡ v → ⊥) → cond b (not (adjacent g u v)) (adjacent g u v) ≡ false
    → cond b (with_edge g u v) (without_edge g u v) ≡ g
left-by true g u v differ h = sym (edge-present g u v differ (not-false (adjacent g u v) h))
left-by false g u v differ h = sym (edge-missing g u v differ h)

-- one that is applied is taken back by its opposite
back-by : (b : Bool) (g : SimpleGraph) (u v : ℕ) → (u ≡ v → ⊥) → cond b (not (adjacent g u v)) (adjacent g u v) ≡ true
    → cond (not b) (with_edge (cond b (with_edge g u v) (without_edge g u v)) u v) (without_edge (cond b (with_edge g u v) (without_edge g u v)) u v) ≡ g
back-by true g u v differ h = without-with g u v ∙ sym (edge-missing g u v differ (not-true (adjacent g u v) h))
back-by false g u v differ h = with-without g u v ∙ sym (edge-present g u v differ h)

-- the ends of an update differ
ends-differ : (u : Update) → u.u ≡ u.v → ⊥
ends-differ u e = let ordered = u.ordered in absurd (omega (arith, ordered, e))

-- Updates in turn. ---------------------------------------------------------------------------------------

-- with one more in front there is one more to be taken back in the end
inverse-cons : (u : Update) (us : List Update) → inverse_of (u ∷ us) ≡ inverse_of us ++ opposite u ∷ []
inverse-cons u us = ap (map opposite) (reverse-cons u us) ∙ map-append opposite (reverse us) (u ∷ [])

-- those that were applied are taken back
pub taken-back : (g : SimpleGraph) (us : List Update) → made_in_turn (made_in_turn g us) (inverse_of (applied_in_turn g us)) ≡ g
taken-back g [] = refl
taken-back g (u ∷ us) =
    let next : SimpleGraph = updated u g in
    let after : SimpleGraph = made_in_turn next us in
    let rest : List Update = applied_in_turn next us in
    let Is : Bool → Type 0 = λ b. made_in_turn after (inverse_of (cond b (u ∷ rest) rest)) ≡ g in
    elim (cases_Bool (is_applied u g)) [
      | inl holds ↦ subst Is (sym holds)
          (ap (made_in_turn after) (inverse-cons u rest) ∙ (made-push after (inverse_of rest) (opposite u)
          ∙ (ap (updated (opposite u)) (taken-back next us) ∙ back-by u.add g u.u u.v (ends-differ u) holds)))
      | inr fails ↦ subst Is (sym fails) (taken-back next us ∙ left-by u.add g u.u u.v (ends-differ u) fails)
    ]
