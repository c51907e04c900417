-- The edges after a batch, and after an update and a batch that names its edge no more.
use Rattle.std.proofs.Common.{◌≡◌, ◌≢◌, ◌<◌, ℕ, Bool, true, false, cond, not, ◌&&◌, ◌||◌, List, [], ◌∷◌, map, refl, sym, ap, ap₂, ◌∙◌, true≢false}
use Rattle.std.proofs.Common.{lt-ltb, ltb, inl, inr}
use Rattle.std.specs.List.{AllByRecursion, filter, list_any}
use Rattle.std.specs.Ordering.{eq_by_cmp}
use Rattle.std.specs.FinSet as set
use Rattle.std.proofs.lemmas.Bool.{and_parts, cases_Bool, false_from_ne_true, or_from}
use Rattle.kc_graph.specs.SimpleGraph.{SimpleGraph, adjacent, pair_cmp}
use Rattle.kc_graph.specs.Edges.{edge, with_edge, without_edge}
use Rattle.kc_graph.proofs.RowsLemmas.{pair_total, pair_exact, same_pair}
use Rattle.kc_text.specs.Inputs.{EdgeUpdate}
use Rattle.kc_batch_effects.specs.Batches.{changed_edge, edges_added, edges_after_batch, edges_removed, graph_after_batch, graph_after_update, is_add}

-- whether the update adds the edge q
abbrev adds_it : ℕ × ℕ → EdgeUpdate → Bool
adds_it q update = is_add update && eq_by_cmp pair_cmp q (changed_edge update)

-- whether it removes it
abbrev removes_it : ℕ × ℕ → EdgeUpdate → Bool
removes_it q update = not (is_add update) && eq_by_cmp pair_cmp q (changed_edge update)

-- an edge is one of those that are kept where an update that is kept has it
any-kept : (keep : EdgeUpdate → Bool) (q : ℕ × ℕ) (batch : List EdgeUpdate)
    → list_any (eq_by_cmp pair_cmp q) (map changed_edge (filter keep batch))
    ≡ list_any (λ update. keep update && eq_by_cmp pair_cmp q (changed_edge update)) batch
any-kept keep q [] = refl
any-kept keep q (x ∷ batch) =
    elim (keep x) as (λ k. list_any (eq_by_cmp pair_cmp q) (map changed_edge (cond k (x ∷ filter keep batch) (filter keep batch)))
    ≡ ((k && eq_by_cmp pair_cmp q (changed_edge x)) || list_any (λ update. keep update && eq_by_cmp pair_cmp q (changed_edge update)) batch)) [
      | true ↦ ap (λ t. eq_by_cmp pair_cmp q (changed_edge x) || t) (any-kept keep q batch)
      | false ↦ any-kept keep q batch
    ]

-- which edges are there after a batch
contains-after : (edges : set.FinSet pair_cmp) (batch : List EdgeUpdate) (q : ℕ × ℕ)
    → set.contains (edges_after_batch edges batch) q ≡ ((set.contains edges q || list_any (adds_it q) batch) && not (list_any (removes_it q) batch))
unfolding edges_after_batch
contains-after edges batch q =
    let some : set.FinSet pair_cmp = set.union edges (set.from_list (edges_added batch)) in
    let gone : set.FinSet pair_cmp = set.from_list (edges_removed batch) in
    set.contains-difference pair_total some gone q
    ∙ ap₂ (λ (s t : Bool). s && not t)
    (set.contains-union pair_total edges (set.from_list (edges_added batch)) q ∙ ap (λ t. set.contains edges q || t)
    (set.contains-from_list pair_total (edges_added batch) q ∙ any-kept is_add q batch))
    (set.contains-from_list pair_total (edges_removed batch) q ∙ any-kept (λ update. not (is_add update)) q batch)

-- nothing added and nothing taken away
or-none : (a : Bool) → ((a || false) && not false) ≡ a
or-none true = refl
or-none false = refl

-- a graph with other edges between its vertices
abbrev with_edges : SimpleGraph → set.FinSet pair_cmp → SimpleGraph
with_edges g edges = record { size = g.size; edges = edges }

-- an empty batch changes nothing
pub graph_after_batch-nil : (g : SimpleGraph) → graph_after_batch g [] ≡ g
graph_after_batch-nil g =
    let same : edges_after_batch g.edges [] ≡ g.edges = set.same_set pair_total pair_exact _ _ (λ q. contains-after g.edges [] q
    ∙ or-none (set.contains g.edges q)) in
    ap (with_edges g) same

-- batches that have the same updates, in whatever order, leave the same edges
pub edges_after_batch-same : (edges : set.FinSet pair_cmp) (xs ys : List EdgeUpdate) → ((p : EdgeUpdate → Bool) → list_any p xs ≡ list_any p ys)
    → edges_after_batch edges xs ≡ edges_after_batch edges ys
edges_after_batch-same edges xs ys same = set.same_set pair_total pair_exact _ _ (λ q. contains-after edges xs q
    ∙ ap₂ (λ (a r : Bool). (set.contains edges q || a) && not r) (same (adds_it q)) (same (removes_it q)) ∙ sym (contains-after edges ys q))

-- batches that have the same updates leave the same graph, whatever their order
pub graph_after_batch-same : (g : SimpleGraph) (xs ys : List EdgeUpdate) → ((p : EdgeUpdate → Bool) → list_any p xs ≡ list_any p ys)
    → graph_after_batch g xs ≡ graph_after_batch g ys
graph_after_batch-same g xs ys same = ap (with_edges g) (edges_after_batch-same g.edges xs ys same)

-- no update of the batch names the edge
abbrev pub Spares : ℕ × ℕ → List EdgeUpdate → Type 0
Spares q batch = AllByRecursion (λ update. changed_edge update ≢ q) batch

-- no update of a batch that spares an edge has it
none-names : (keep : EdgeUpdate → Bool) (q : ℕ × ℕ) (batch : List EdgeUpdate) → Spares q batch
    → list_any (λ update. keep update && eq_by_cmp pair_cmp q (changed_edge update)) batch ≡ false
none-names keep q [] spares = refl
none-names keep q (x ∷ batch) spares =
    let other : (keep x && eq_by_cmp pair_cmp q (changed_edge x)) ≡ false = false_from_ne_true _ (λ t. spares.0 (sym (same_pair q (changed_edge x)
    (and_parts (keep x) (eq_by_cmp pair_cmp q (changed_edge x)) t).1))) in
    or_from (keep x && eq_by_cmp pair_cmp q (changed_edge x)) (list_any (λ update. keep update && eq_by_cmp pair_cmp q (changed_edge update)) batch)
    other (none-names keep q batch spares.1)

-- an update that adds goes first: e says whether the edge asked for is the added one
add-first : (c e a r : Bool) → (((e || c) || a) && not r) ≡ ((c || (e || a)) && not (false || r))
add-first true true a r = refl
add-first true false a r = refl
add-first false true a r = refl
add-first false false a r = refl

-- an update that removes goes first; the batch then doesn't add the edge again
remove-first : (c e a r : Bool) → (e ≡ true → a ≡ false) → (((not e && c) || a) && not r) ≡ ((c || (false || a)) && not (e || r))
remove-first c true true r h = absurd (true≢false (h refl))
remove-first true true false r h = refl
remove-first false true false r h = refl
remove-first c false a r h = refl

module _ (edges : set.FinSet pair_cmp) (x : EdgeUpdate) (batch : List EdgeUpdate) (spares : Spares (changed_edge x) batch) where
  -- an edge is there after an update and then the batch where it is after the batch with that update
  contains-first : (q : ℕ × ℕ)
      → set.contains (edges_after_batch (cond (is_add x) (set.insert edges (changed_edge x)) (set.remove edges (changed_edge x))) batch) q
      ≡ set.contains (edges_after_batch edges (x ∷ batch)) q
  contains-first q =
      let c : Bool = set.contains edges q in
      let e : Bool = eq_by_cmp pair_cmp q (changed_edge x) in
      let a : Bool = list_any (adds_it q) batch in
      let r : Bool = list_any (removes_it q) batch in
      let after : set.contains (edges_after_batch edges (x ∷ batch)) q ≡ ((c || ((is_add x && e) || a)) && not ((not (is_add x) && e) || r)) =
      contains-after edges (x ∷ batch) q in
      let spared : e ≡ true → a ≡ false = λ t. ap (λ (p : ℕ × ℕ). list_any (adds_it p) batch) (same_pair q (changed_edge x) t)
      ∙ none-names is_add (changed_edge x) batch spares in
      elim (is_add x) as (λ b. set.contains (edges_after_batch (cond b (set.insert edges (changed_edge x)) (set.remove edges (changed_edge x))) batch) q
      ≡ ((c || ((b && e) || a)) && not ((not b && e) || r))) [
        | true ↦ contains-after (set.insert edges (changed_edge x)) batch q
            ∙ ap (λ t. (t || a) && not r) (set.contains-insert pair_total edges (changed_edge x) q) ∙ add-first c e a r
        | false ↦ contains-after (set.remove edges (changed_edge x)) batch q
            ∙ ap (λ t. (t || a) && not r) (set.contains-remove pair_total edges (changed_edge x) q) ∙ remove-first c e a r spared
      ] ∙ sym after

-- an update, and then a batch that spares its edge, are one batch
pub graph_after_batch-first : (g : SimpleGraph) (x : EdgeUpdate) (batch : List EdgeUpdate) → Spares (changed_edge x) batch
    → graph_after_batch (graph_after_update g x) batch ≡ graph_after_batch g (x ∷ batch)
graph_after_batch-first g x batch spares = ap (with_edges g) (set.same_set pair_total pair_exact _ _ (contains-first g.edges x batch spares))

-- an update leaves each edge as it is that differs from its own
contains-differs : (g : SimpleGraph) (x : EdgeUpdate) (q : ℕ × ℕ) → eq_by_cmp pair_cmp q (changed_edge x) ≡ false
    → set.contains (graph_after_update g x).edges q ≡ set.contains g.edges q
contains-differs g x q differs =
    elim (is_add x) as (λ b. set.contains (cond b (set.insert g.edges (changed_edge x)) (set.remove g.edges (changed_edge x))) q ≡ set.contains g.edges q) [
      | true ↦ set.contains-insert pair_total g.edges (changed_edge x) q ∙ ap (λ t. t || set.contains g.edges q) differs
      | false ↦ set.contains-remove pair_total g.edges (changed_edge x) q ∙ ap (λ t. not t && set.contains g.edges q) differs
    ]

-- so it leaves each other edge as it is
pub contains-other : (g : SimpleGraph) (x : EdgeUpdate) (q : ℕ × ℕ) → changed_edge x ≢ q
    → set.contains (graph_after_update g x).edges q ≡ set.contains g.edges q
contains-other g x q other = contains-differs g x q (false_from_ne_true _ (λ t. other (sym (same_pair q (changed_edge x) t))))

-- whether an update of the batch names the edge
abbrev pub names_edge : ℕ × ℕ → List EdgeUpdate → Bool
names_edge q batch = list_any (λ update. eq_by_cmp pair_cmp q (changed_edge update)) batch

-- an update of an edge adds it or removes it, or else one behind it does; k says whether it adds, and e whether it is of that edge
first-or-later : (k e a r n : Bool) → (n ≡ true → (a || r) ≡ true) → (e || n) ≡ true → (((k && e) || a) || ((not k && e) || r)) ≡ true
first-or-later true true a r n later h = refl
first-or-later false true true r n later h = refl
first-or-later false true false r n later h = refl
first-or-later true false a r n later h = later h
first-or-later false false a r n later h = later h

-- a batch that names an edge adds it or removes it
adds-or-removes : (q : ℕ × ℕ) (batch : List EdgeUpdate) → names_edge q batch ≡ true → (list_any (adds_it q) batch || list_any (removes_it q) batch) ≡ true
adds-or-removes q [] h = absurd (true≢false (sym h))
adds-or-removes q (x ∷ batch) h =
    first-or-later (is_add x) (eq_by_cmp pair_cmp q (changed_edge x)) (list_any (adds_it q) batch) (list_any (removes_it q) batch) (names_edge q batch)
    (adds-or-removes q batch) h

-- whether an edge that a batch adds or removes is there after it doesn't depend on what was there before
whatever-was : (c d a r : Bool) → (a || r) ≡ true → ((c || a) && not r) ≡ ((d || a) && not r)
whatever-was true true a r h = refl
whatever-was false false a r h = refl
whatever-was true false true r h = refl
whatever-was true false false true h = refl
whatever-was true false false false h = absurd (true≢false (sym h))
whatever-was false true true r h = refl
whatever-was false true false true h = refl
whatever-was false true false false h = absurd (true≢false (sym h))

-- an update whose edge the batch behind it names makes no difference after that batch
pub graph_after_batch-again : (g : SimpleGraph) (x : EdgeUpdate) (batch : List EdgeUpdate) → names_edge (changed_edge x) batch ≡ true
    → graph_after_batch (graph_after_update g x) batch ≡ graph_after_batch g batch
graph_after_batch-again g x batch named =
    ap (with_edges g) (set.same_set pair_total pair_exact _ _ (λ q. contains-after (graph_after_update g x).edges batch q ∙ (alike q
    ∙ sym (contains-after g.edges batch q))))
  where
    alike : (q : ℕ × ℕ) → ((set.contains (graph_after_update g x).edges q || list_any (adds_it q) batch) && not (list_any (removes_it q) batch))
        ≡ ((set.contains g.edges q || list_any (adds_it q) batch) && not (list_any (removes_it q) batch))
    alike q = elim (cases_Bool (eq_by_cmp pair_cmp q (changed_edge x))) [
      | inl same ↦ whatever-was (set.contains (graph_after_update g x).edges q) (set.contains g.edges q) (list_any (adds_it q) batch)
          (list_any (removes_it q) batch)
          (adds-or-removes q batch (ap (λ (p : ℕ × ℕ). names_edge p batch) (same_pair q (changed_edge x) same) ∙ named))
      | inr differs ↦ ap (λ t. (t || list_any (adds_it q) batch) && not (list_any (removes_it q) batch)) (contains-differs g x q differs)
    ]

-- a pair in order is an edge as it stands
edge-ordered : (u v : ℕ) → u < v → edge u v ≡ (u, v)
edge-ordered u v l = ap (λ t. cond t (u, v) (v, u)) (lt-ltb u v l)

-- ends in order are neighbours where their pair is an edge
pub contains-ordered : (g : SimpleGraph) (u v : ℕ) → u < v → adjacent g u v ≡ set.contains g.edges (u, v)
contains-ordered g u v l = ap (λ t. cond t (set.contains g.edges (u, v)) (ltb v u && set.contains g.edges (v, u))) (lt-ltb u v l)

-- adding an edge is one update
pub graph_after_update-add : (g : SimpleGraph) (u v : ℕ) → u < v → with_edge g u v ≡ graph_after_update g (record { add = true; u = u; v = v })
graph_after_update-add g u v l = ap (λ (p : ℕ × ℕ). with_edges g (set.insert g.edges p)) (edge-ordered u v l)

-- removing an edge is one update
pub graph_after_update-remove : (g : SimpleGraph) (u v : ℕ) → u < v → without_edge g u v ≡ graph_after_update g (record { add = false; u = u; v = v })
graph_after_update-remove g u v l = ap (λ (p : ℕ × ℕ). with_edges g (set.remove g.edges p)) (edge-ordered u v l)
