-- Who is adjacent once an edge came or went.
use Rattle.std.proofs.Common.{◌≡◌, ◌<◌, ℕ, Bool, false, not, ◌&&◌, ◌||◌, ltb, refl, sym, ◌∙◌, ap, ap₂, inl, inr, arith, lt-ltb, le-ltb}
use Rattle.std.specs.Cmp.{both_ways}
use Rattle.std.specs.Ordering.{eq_by_cmp}
use Rattle.std.specs.FinSet.{contains, insert, remove, contains-insert, contains-remove}
use Rattle.std.proofs.lemmas.Bool.{cases_order, false_from_ne_true}
use Rattle.kc_lists.proofs.Shared.{or-turned}
use Rattle.kc_graph.specs.SimpleGraph.{SimpleGraph, adjacent, pair_cmp}
use Rattle.kc_graph.specs.Edges.{edge, with_edge, without_edge}
use Rattle.kc_graph.proofs.Ends.{joins, joins-true, joins-sym, joins-edge, edge-joins}
use Rattle.kc_graph.proofs.Law.{adjacent-self, adjacent-sym}
use Rattle.kc_graph.proofs.RowsLemmas.{pair_total, same_pair, tied_pair}

-- a pair with its lesser end first is the edge between two vertices just where that joins its ends
same_edge : (u v a b : ℕ) → (u ≡ v → ⊥) → a < b → eq_by_cmp pair_cmp (a, b) (edge u v) ≡ joins u v a b
same_edge u v a b differ l = both_ways _ _
    (λ h. (edge-joins u v a b differ (same_pair (a, b) (edge u v) h)).1)
    (λ j. tied_pair (a, b) (edge u v) (joins-edge u v a b differ l j))

-- no edge joins a vertex to itself
joins-itself : (u v a : ℕ) → (u ≡ v → ⊥) → joins u v a a ≡ false
joins-itself u v a differ =
    false_from_ne_true (joins u v a a)
    (λ k. elim (joins-true u v a a k) [ inl p ↦ differ (sym p.0 ∙ p.1) | inr p ↦ differ (sym p.1 ∙ p.0) ])

-- a vertex and a greater one are adjacent just where the pair of them is an edge
adjacent-below : (g : SimpleGraph) (a b : ℕ) → a < b → adjacent g a b ≡ contains g.edges (a, b)
adjacent-below g a b l = rw (lt-ltb a b l) refl

-- a vertex and a lesser one are adjacent just where the pair of them, turned, is an edge
adjacent-above : (g : SimpleGraph) (a b : ℕ) → b < a → adjacent g a b ≡ contains g.edges (b, a)
adjacent-above g a b l = let n : ltb a b ≡ false = le-ltb a b (omega arith) in rw (n, lt-ltb b a l) refl

-- either order of a test and a denied one is the same
and_swap : (a b : Bool) → (not a && b) ≡ (b && not a)
and_swap a b = grind arith

-- after an edge came, a pair is an edge where its ends were adjacent or the new edge joins them
with_below : (g : SimpleGraph) (u v a b : ℕ) → (u ≡ v → ⊥) → a < b → contains (insert g.edges (edge u v)) (a, b) ≡ (adjacent g a b || joins u v a b)
with_below g u v a b differ l =
    contains-insert pair_total g.edges (edge u v) (a, b)
    ∙
    (ap₂ (λ (s t : Bool). s || t) (same_edge u v a b differ l) (sym (adjacent-below g a b l)) ∙ or-turned (joins u v a b) (adjacent g a b))

-- after an edge went, a pair is an edge where its ends were adjacent and that edge does not join them
without_below : (g : SimpleGraph) (u v a b : ℕ) → (u ≡ v → ⊥) → a < b → contains (remove g.edges (edge u v)) (a, b) ≡ (adjacent g a b && not (joins u v a b))
without_below g u v a b differ l =
    contains-remove pair_total g.edges (edge u v) (a, b)
    ∙
    (ap₂ (λ (s t : Bool). not s && t) (same_edge u v a b differ l) (sym (adjacent-below g a b l))
    ∙ and_swap (joins u v a b) (adjacent g a b))

-- after an edge came, those are adjacent that were, and its two ends
pub adjacent-with : (g : SimpleGraph) (u v a b : ℕ) → (u ≡ v → ⊥) → adjacent (with_edge g u v) a b ≡ (adjacent g a b || joins u v a b)
adjacent-with g u v a b differ = elim (cases_order a b) [
  | inl e ↦
      let other : joins u v a b ≡ false = ap (joins u v a) (sym e) ∙ joins-itself u v a differ in
      let alone : adjacent g a b ≡ false = ap (adjacent g a) (sym e) ∙ adjacent-self g a in
      let alone' : adjacent (with_edge g u v) a b ≡ false = ap (adjacent (with_edge g u v) a) (sym e) ∙ adjacent-self (with_edge g u v) a in
      alone' ∙ sym (ap₂ (λ (s t : Bool). s || t) alone other)
  | inr (inl l) ↦ adjacent-below (with_edge g u v) a b l ∙ with_below g u v a b differ l
  | inr (inr l) ↦ adjacent-above (with_edge g u v) a b l ∙ (with_below g u v b a differ l ∙ ap₂ (λ (s t : Bool). s || t) (adjacent-sym g b a)
      (joins-sym u v b a))
]

-- after an edge went, those are adjacent that were, but not its two ends
pub adjacent-without : (g : SimpleGraph) (u v a b : ℕ) → (u ≡ v → ⊥) → adjacent (without_edge g u v) a b ≡ (adjacent g a b && not (joins u v a b))
adjacent-without g u v a b differ = elim (cases_order a b) [
  | inl e ↦
      let alone : adjacent g a b ≡ false = ap (adjacent g a) (sym e) ∙ adjacent-self g a in
      let alone' : adjacent (without_edge g u v) a b ≡ false = ap (adjacent (without_edge g u v) a) (sym e) ∙ adjacent-self (without_edge g u v) a in
      alone' ∙ sym (ap (λ t. t && not (joins u v a b)) alone)
  | inr (inl l) ↦ adjacent-below (without_edge g u v) a b l ∙ without_below g u v a b differ l
  | inr (inr l) ↦ adjacent-above (without_edge g u v) a b l ∙ (without_below g u v b a differ l ∙ ap₂ (λ (s t : Bool). s && not t) (adjacent-sym g b a)
      (joins-sym u v b a))
]
