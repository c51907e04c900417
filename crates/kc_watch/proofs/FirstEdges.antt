-- The edges of a graph, listed vertex by vertex, are all that it has.
use Rattle.std.proofs.Common.{◌≡◌, ◌<◌, ◌+◌, ℕ, Bool, true, false, cond, List, [], ◌∷◌, ◌++◌, map, filter, refl, sym, ap, ◌∙◌, subst, inl, inr}
use Rattle.std.proofs.Common.{arith, ltb, ltb-true, ltb-false}
use Rattle.std.specs.Prelude.{All}
use Rattle.std.specs.List.{list_any}
use Rattle.std.specs.Ordering.{eq_by_cmp}
use Rattle.std.specs.Cmp.{both_ways}
use Rattle.std.specs.FinSet as set
use Rattle.std.proofs.lemmas.Bool.{cases_lt, false≢true, or_cases, or_left, or_right}
use Rattle.std.proofs.lemmas.List.Elements.{All-append, All-cons, All-head, All-nil, All-tail, All-weaker}
use Rattle.std.proofs.lemmas.List.Folds.{list_any-append}
use Rattle.kc_lists.specs.Lists.{member}
use Rattle.kc_lists.proofs.Members.{member-cases, member-head, member-tail}
use Rattle.kc_graph.specs.Neighbours.{AreNeighbours, edges_to_greater}
use Rattle.kc_graph.specs.SimpleGraph.{SimpleGraph, pair_cmp}
use Rattle.kc_graph.proofs.RowsLemmas.{pair_exact, pair_total, same_pair, tied_pair}
use Rattle.kc_stream.specs.Gathering.{IsPairBelow}
use Rattle.kc_batch_effects.proofs.Applying.{contains-ordered}
use Rattle.kc_watch.specs.Room.{AreEdgesBelow, ListsEdgesBelow}

-- what holds of a vertex and each greater one of these holds of each edge to one
to-each : (P : ℕ × ℕ → Type 0) (v : ℕ) (ws : List ℕ) → ((w : ℕ) → member w ws ≡ true → v < w → P (v, w)) → All P (edges_to_greater v ws)
to-each P v [] each = All-nil P
to-each P v (w ∷ ws) each =
    let rest : All P (edges_to_greater v ws) = to-each P v ws (λ x m less. each x (member-tail x w ws m) less) in
    elim (ltb v w) as (λ t. ltb v w ≡ t → All P (map (λ x. (v, x)) (cond t (w ∷ filter (ltb v) ws) (filter (ltb v) ws)))) [
      | true ↦ λ e. All-cons P (v, w) (edges_to_greater v ws) (each w (member-head w ws) (ltb-true v w e)) rest
      | false ↦ λ e. rest
    ] refl

-- the edge to a greater one of these is there
to-has : (v b : ℕ) (ws : List ℕ) → v < b → member b ws ≡ true → list_any (eq_by_cmp pair_cmp (v, b)) (edges_to_greater v ws) ≡ true
to-has v b [] less m = absurd (false≢true m)
to-has v b (w ∷ ws) less m =
    elim (ltb v w) as (λ t. ltb v w ≡ t
    → list_any (eq_by_cmp pair_cmp (v, b)) (map (λ x. (v, x)) (cond t (w ∷ filter (ltb v) ws) (filter (ltb v) ws))) ≡ true) [
      | true ↦ λ e. elim (member-cases b w ws m) [
        | inl s ↦ or_left (eq_by_cmp pair_cmp (v, b) (v, w)) _ (tied_pair (v, b) (v, w) (ap (λ (x : ℕ). (v, x)) s))
        | inr k ↦ or_right (eq_by_cmp pair_cmp (v, b) (v, w)) _ (to-has v b ws less k)
      ]
      | false ↦ λ e. elim (member-cases b w ws m) [
        | inl s ↦ absurd (omega (arith, ltb-false v w e, less, s))
        | inr k ↦ to-has v b ws less k
      ]
    ] refl

module _ (g : SimpleGraph) (n : ℕ) (below : AreEdgesBelow n g.edges) where
  -- none are listed of no vertices
  pub lists-none : ListsEdgesBelow g 0 []
  lists-none = record {
    edges = All-nil (λ p. set.contains g.edges p ≡ true);
    whole = λ p there less. absurd (omega (arith, less));
  }

  -- those of one vertex more are listed
  pub lists-next : (v : ℕ) (ws : List ℕ) (es : List (ℕ × ℕ)) → AreNeighbours g v ws → ListsEdgesBelow g v es
      → ListsEdgesBelow g (v + 1) (es ++ edges_to_greater v ws)
  lists-next v ws es are h =
      let Has : ℕ × ℕ → Type 0 = λ (p : ℕ × ℕ). set.contains g.edges p ≡ true in
      record {
        edges = All-append Has es (edges_to_greater v ws) h.edges
            (to-each Has v ws (λ w m less. sym (contains-ordered g v w less) ∙ (sym (are.exact w) ∙ m)));
        whole = λ p there low.
            let test : ℕ × ℕ → Bool = eq_by_cmp pair_cmp p in
            list_any-append test es (edges_to_greater v ws) ∙ elim (cases_lt p.0 v) [
              | inl less ↦ or_left (list_any test es) (list_any test (edges_to_greater v ws)) (h.whole p there less)
              | inr high ↦
                  let same : p.0 ≡ v = omega (arith, low, high) in
                  let pair : (v, p.1) ≡ p = ap (λ (x : ℕ). (x, p.1)) (sym same) in
                  let less : v < p.1 = omega (arith, (below p there).0, same) in
                  let m : member p.1 ws ≡ true = are.exact p.1 ∙ (contains-ordered g v p.1 less ∙ (ap (set.contains g.edges) pair ∙ there)) in
                  or_right (list_any test es) (list_any test (edges_to_greater v ws))
                  (subst (λ (q : ℕ × ℕ). list_any (eq_by_cmp pair_cmp q) (edges_to_greater v ws) ≡ true) pair (to-has v p.1 ws less m))
            ];
      }

  -- each listed edge is between two vertices
  pub lists-within : (v : ℕ) (es : List (ℕ × ℕ)) → ListsEdgesBelow g v es → All (IsPairBelow n) es
  lists-within v es h = All-weaker (λ (p : ℕ × ℕ). set.contains g.edges p ≡ true) (IsPairBelow n) (λ p there. below p there) es h.edges

  -- one of them is an edge
  is-edge : (es : List (ℕ × ℕ)) (q : ℕ × ℕ) → All (λ (p : ℕ × ℕ). set.contains g.edges p ≡ true) es → list_any (eq_by_cmp pair_cmp q) es ≡ true
      → set.contains g.edges q ≡ true
  is-edge [] q each h = absurd (false≢true h)
  is-edge (p ∷ es) q each h =
      let Has : ℕ × ℕ → Type 0 = λ (x : ℕ × ℕ). set.contains g.edges x ≡ true in
      elim (or_cases (eq_by_cmp pair_cmp q p) (list_any (eq_by_cmp pair_cmp q) es) h) [
        | inl e ↦ subst Has (sym (same_pair q p e)) (All-head Has p es each)
        | inr later ↦ is-edge es q (All-tail Has p es each) later
      ]

  -- those of all vertices are the edges of the graph
  pub lists-all : (es : List (ℕ × ℕ)) → ListsEdgesBelow g n es → set.from_list es ≡ g.edges
  lists-all es h = set.same_set pair_total pair_exact _ _ (λ q.
      set.contains-from_list pair_total es q
      ∙ both_ways _ _ (is-edge es q h.edges) (λ there. let (less, low) = below q there in h.whole q there (omega (arith, less, low))))
