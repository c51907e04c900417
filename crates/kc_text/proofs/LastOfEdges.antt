-- The last updates of edges: they name each edge that all updates name, and none twice.
use Rattle.std.proofs.Common.{◌≡◌, ◌≢◌, ◌<◌, ℕ, suc, Bool, true, false, cond, ◌&&◌, ◌||◌, List, [], ◌∷◌, get_or, refl, sym, ap, ap₂, ◌∙◌, arith}
use Rattle.std.proofs.Common.{nat_eq, eqb-true, eq-eqb, inl, inr}
use Rattle.std.specs.Prelude.{All, AllPairs}
use Rattle.std.specs.List.{list_any}
use Rattle.std.proofs.lemmas.Bool.{and_from, and_parts, cases_Bool, false≢true}
use Rattle.std.proofs.lemmas.List.Elements.{All-cons}
use Rattle.std.proofs.lemmas.List.Folds.{list_any_at}
use Rattle.std.proofs.lemmas.List.Kept.{AllPairs-cons}
use Rattle.kc_graph.specs.declared.update.Update.{Update}
use Rattle.kc_text.specs.Inputs.{IsBatch, edge_of}
use Rattle.kc_text.specs.LastUpdates.{last_of_edges, same_edge}

-- updates of one edge name an edge alike
same_edge-alike : (x y z : Update) → same_edge x y ≡ true → same_edge x z ≡ same_edge y z
same_edge-alike x y z same =
    let (u, v) = and_parts _ _ same in
    ap₂ (λ (a b : ℕ). nat_eq a z.u && nat_eq b z.v) (eqb-true x.u y.u u) (eqb-true x.v y.v v)

-- so there are updates of the edge of the one where there are of that of the other
named-alike : (x y : Update) (updates : List Update) → same_edge x y ≡ true → list_any (same_edge x) updates ≡ list_any (same_edge y) updates
named-alike x y [] same = refl
named-alike x y (z ∷ updates) same = ap₂ (λ (a b : Bool). a || b) (same_edge-alike x y z same) (named-alike x y updates same)

-- what is named by the updates is named by the last ones, and the other way round
pub last-names : (q : Update) (updates : List Update) → list_any (same_edge q) (last_of_edges updates) ≡ list_any (same_edge q) updates
last-names q [] = refl
last-names q (x ∷ rest) =
    elim (list_any (same_edge x) rest) as (λ b. list_any (same_edge x) rest ≡ b
    → list_any (same_edge q) (cond b (last_of_edges rest) (x ∷ last_of_edges rest)) ≡ (same_edge q x || list_any (same_edge q) rest)) [
      | true ↦ λ again. last-names q rest ∙ sym (absorbed again)
      | false ↦ λ _. ap (λ t. same_edge q x || t) (last-names q rest)
    ] refl
  where
    absorbed : list_any (same_edge x) rest ≡ true → (same_edge q x || list_any (same_edge q) rest) ≡ list_any (same_edge q) rest
    absorbed again = elim (cases_Bool (same_edge q x)) [
      | inl same ↦ ap (λ t. t || list_any (same_edge q) rest) same ∙ sym (named-alike q x rest same ∙ again)
      | inr other ↦ ap (λ t. t || list_any (same_edge q) rest) other
    ]

-- updates with the same ends are of one edge
pub same_edge-from_ends : (x y : Update) → edge_of x ≡ edge_of y → same_edge x y ≡ true
same_edge-from_ends x y e =
    and_from _ _ (eq-eqb x.u y.u (ap (λ (p : ℕ × ℕ). p.0) e)) (eq-eqb x.v y.v (ap (λ (p : ℕ × ℕ). p.1) e))

-- updates of one edge have the same ends
pub ends-from_same_edge : (x y : Update) → same_edge x y ≡ true → edge_of x ≡ edge_of y
ends-from_same_edge x y same =
    let (u, v) = and_parts _ _ same in
    ap₂ (λ (a b : ℕ). (a, b)) (eqb-true x.u y.u u) (eqb-true x.v y.v v)

-- no two of the last updates are of one edge
last-apart : (updates : List Update) → AllPairs (λ x y. edge_of x ≢ edge_of y) (last_of_edges updates)
last-apart [] = λ i j d l m. absurd (omega arith)
last-apart (x ∷ rest) =
    elim (list_any (same_edge x) rest) as (λ b. list_any (same_edge x) rest ≡ b
    → AllPairs (λ x y. edge_of x ≢ edge_of y) (cond b (last_of_edges rest) (x ∷ last_of_edges rest))) [
      | true ↦ λ _. last-apart rest
      | false ↦ λ none. AllPairs-cons (λ x y. edge_of x ≢ edge_of y) x (last_of_edges rest)
          (λ i d l e. false≢true (sym (last-names x rest ∙ none) ∙ list_any_at (same_edge x) (last_of_edges rest) i d l
          (same_edge-from_ends x (get_or (last_of_edges rest) i d) e)))
          (last-apart rest)
    ] refl

-- what holds of all updates holds of the last ones
last-all : (P : Update → Type 0) (updates : List Update) → All P updates → All P (last_of_edges updates)
last-all P [] all = λ i d l. absurd (omega arith)
last-all P (x ∷ rest) all =
    elim (list_any (same_edge x) rest) as (λ b. All P (cond b (last_of_edges rest) (x ∷ last_of_edges rest))) [
      | true ↦ last-all P rest (λ i d l. all (suc i) d (omega arith))
      | false ↦ All-cons P x (last_of_edges rest) (all 0 x (omega arith)) (last-all P rest (λ i d l. all (suc i) d (omega arith)))
    ]

-- so the last updates are a batch
pub last-batch : (vertices : ℕ) (updates : List Update) → All (λ update. update.v < vertices) updates → IsBatch vertices (last_of_edges updates)
last-batch vertices updates within = record {
  within = last-all (λ update. update.v < vertices) updates within;
  apart = last-apart updates;
}
