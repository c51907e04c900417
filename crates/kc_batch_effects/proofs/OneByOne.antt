-- The entries of a batch one after the other: no two are of one edge, so none changes what another one meets.
use Rattle.std.proofs.Common.{◌≡◌, ◌≢◌, ◌<◌, ◌-◌, ℕ, Bool, true, false, cond, not, List, [], ◌∷◌, ◌++◌, length, get_or, map, eqb, refl, sym, ◌∙◌, ap}
use Rattle.std.proofs.Common.{ap₂, inl, inr, arith, true≢false, eq-eqb}
use Rattle.std.specs.List.{AllByRecursion}
use Rattle.std.proofs.Math.Seq.{get_or-append_seam}
use Rattle.std.proofs.lemmas.Bool.{cases_order, eqb-false, or_left, or_parts, or_right}
use Rattle.std.proofs.lemmas.List.{get_or_at, length-append, length-map, map-append}
use Rattle.kc_lists.specs.Lists.{member, Distinct}
use Rattle.kc_graph.specs.SimpleGraph.{SimpleGraph}
use Rattle.kc_graph.specs.Edges.{with_edge, without_edge}
use Rattle.kc_graph.specs.declared.update.Update.{Update}
use Rattle.kc_table.specs.declared.entry.Entry.{Entry}
use Rattle.kc_table.specs.Edges.{after_entry, after_entries}
use Rattle.kc_text.specs.Inputs.{EdgeUpdate, IsBatch, edge_of, parts_of}
use Rattle.kc_agree.specs.Stamps.{changes_graph}
use Rattle.kc_batch_effects.specs.Batches.{changed_edge, graph_after_batch, graph_after_update, is_effective}
use Rattle.kc_batch_effects.specs.Entered.{IsIndexOf, IsOneOf, IsUpdateAt, parts_of_entry, indices}
use Rattle.kc_batch_effects.proofs.Applying.{Spares, contains-ordered, contains-other, graph_after_batch-first, graph_after_batch-nil, graph_after_update-add}
use Rattle.kc_batch_effects.proofs.Applying.{graph_after_update-remove}

-- what stands where a batch has no update
abbrev pub no_update : EdgeUpdate
no_update = record { add = false; u = 0; v = 0 }

module _ (first : ℕ) (batch : List Update) where
  -- an update stands under an index of the batch
  pub index-within : (index : ℕ) (u : Update) → IsUpdateAt first batch index u → IsIndexOf first batch index
  index-within index u at = (omega (arith, at.index_is), omega (arith, at.index_is, ap length at.is, length-append at.front (u ∷ at.back)))

  -- what a function makes of the batch has, at the place of an index, what it makes of that update
  pub made-at : {Y : Type 0} (f : Update → Y) (d : Y) (index : ℕ) (u : Update) → IsUpdateAt first batch index u
      → get_or (map f batch) (index - first) d ≡ f u
  made-at {Y} f d index u at =
      let place : index - first ≡ length at.front = omega (arith, at.index_is) in
      let split : map f batch ≡ map f at.front ++ f u ∷ map f at.back = ap (map f) at.is ∙ map-append f at.front (u ∷ at.back) in
      ap₂ (λ (ys : List Y) (n : ℕ). get_or ys n d) split place
      ∙ get_or_at (map f at.front) (f u) (map f at.back) d (length at.front) (length-map at.front f)

  -- so there is one under an index
  pub one-at : (i j : ℕ) (u w : Update) → IsUpdateAt first batch i u → IsUpdateAt first batch j w → i ≡ j → parts_of u ≡ parts_of w
  one-at i j u w at-u at-w same =
      sym (made-at parts_of no_update i u at-u)
      ∙ (ap (λ (k : ℕ). get_or (map parts_of batch) (k - first) no_update) same ∙ made-at parts_of no_update j w at-w)

  module _ (vertices : ℕ) (is_batch : IsBatch vertices batch) where
    -- an update whose place is less than that of another is of another edge
    lesser-apart : (i j : ℕ) (u w : Update) → (at-u : IsUpdateAt first batch i u) → (at-w : IsUpdateAt first batch j w) → i < j → edge_of u ≢ edge_of w
    lesser-apart i j u w at-u at-w l e =
        let here : get_or batch (length at-u.front) u ≡ u = ap (λ (us : List Update). get_or us (length at-u.front) u) at-u.is
        ∙ get_or-append_seam at-u.front u at-u.back u in
        let there : get_or batch (length at-w.front) u ≡ w = ap (λ (us : List Update). get_or us (length at-w.front) u) at-w.is
        ∙ get_or-append_seam at-w.front w at-w.back u in
        is_batch.apart (length at-u.front) (length at-w.front) u (omega (arith, at-u.index_is, at-w.index_is))
        (omega (arith, ap length at-w.is, length-append at-w.front (w ∷ at-w.back))) (ap edge_of here ∙ (e ∙ sym (ap edge_of there)))

    -- so updates under different indices are of different edges
    pub edges-apart : (i j : ℕ) (u w : Update) → IsUpdateAt first batch i u → IsUpdateAt first batch j w → (i ≡ j → ⊥) → edge_of u ≢ edge_of w
    edges-apart i j u w at-u at-w differ e = elim (cases_order i j) [
      | inl same ↦ differ same
      | inr (inl l) ↦ lesser-apart i j u w at-u at-w l e
      | inr (inr l) ↦ lesser-apart j i w u at-w at-u l (sym e)
    ]

    -- and so are their entries
    pub entries-apart : (e f : Entry) → IsOneOf first batch e → IsOneOf first batch f → (e.index ≡ f.index → ⊥)
        → changed_edge (parts_of_entry e) ≢ changed_edge (parts_of_entry f)
    entries-apart e f of-e of-f differ same =
        edges-apart e.index f.index of-e.0 of-f.0 of-e.1 of-f.1 differ (sym (ap changed_edge of-e.2) ∙ (same ∙ ap changed_edge of-f.2))

    -- entries of other indices spare the edge of an entry
    spared : (e : Entry) → IsOneOf first batch e → (es : List Entry) → AllByRecursion (IsOneOf first batch) es → member e.index (indices es) ≡ false
        → Spares (changed_edge (parts_of_entry e)) (map parts_of_entry es)
    spared e of-e [] all none = tt
    spared e of-e (f ∷ es) all none =
        let parts = or_parts (eqb e.index f.index) (member e.index (indices es)) none in
        (entries-apart f e all.0 of-e (λ same. eqb-false e.index f.index parts.0 (sym same)), spared e of-e es all.1 parts.1)

  -- the ends of an entry of the batch are in order
  pub ends-ordered : (e : Entry) → IsOneOf first batch e → e.u < e.v
  ends-ordered e of-e = omega (arith, ap (λ (p : EdgeUpdate). p.u) of-e.2, ap (λ (p : EdgeUpdate). p.v) of-e.2, of-e.0.ordered)

  -- an entry of the batch is one update
  pub one-entry : (g : SimpleGraph) (e : Entry) → IsOneOf first batch e → after_entry g e ≡ graph_after_update g (parts_of_entry e)
  one-entry g e of-e =
      let l : e.u < e.v = ends-ordered e of-e in
      elim e.add as (λ b. cond b (with_edge g e.u e.v) (without_edge g e.u e.v) ≡ graph_after_update g (record { add = b; u = e.u; v = e.v })) [
        | true ↦ graph_after_update-add g e.u e.v l
        | false ↦ graph_after_update-remove g e.u e.v l
      ]

  -- an entry changes the graph where its update is effective on its edges
  changes-here : (g : SimpleGraph) (e : Entry) → IsOneOf first batch e → changes_graph e g ≡ is_effective g.edges (parts_of_entry e)
  changes-here g e of-e = ap (λ (t : Bool). cond e.add (not t) t) (contains-ordered g e.u e.v (ends-ordered e of-e))

-- the entry where a list is cut
pub at-cut : (P : Entry → Type 0) (front : List Entry) (e : Entry) (back : List Entry) → AllByRecursion P (front ++ e ∷ back) → P e
at-cut P [] e back all = all.0
at-cut P (f ∷ front) e back all = at-cut P front e back all.1

-- the index of an entry where a list is cut is among those of the list
index-in : (front : List Entry) (e : Entry) (back : List Entry) → member e.index (indices (front ++ e ∷ back)) ≡ true
index-in [] e back = or_left (eqb e.index e.index) (member e.index (indices back)) (eq-eqb e.index e.index refl)
index-in (f ∷ front) e back = or_right (eqb e.index f.index) (member e.index (indices (front ++ e ∷ back))) (index-in front e back)

module _ (first vertices : ℕ) (batch : List Update) (is_batch : IsBatch vertices batch) where
  -- all of them in turn are one batch
  pub in_turn : (g : SimpleGraph) (es : List Entry) → AllByRecursion (IsOneOf first batch) es → Distinct (indices es)
      → after_entries g es ≡ graph_after_batch g (map parts_of_entry es)
  in_turn g [] all once = sym (graph_after_batch-nil g)
  in_turn g (e ∷ es) all once =
      ap (λ (y : SimpleGraph). after_entries y es) (one-entry first batch g e all.0)
      ∙ (in_turn (graph_after_update g (parts_of_entry e)) es all.1 once.1
      ∙ graph_after_batch-first g (parts_of_entry e) (map parts_of_entry es) (spared first batch vertices is_batch e all.0 es all.1 once.0))

  -- an entry of another index leaves it to an entry whether that one is effective
  effective-other : (g : SimpleGraph) (f e : Entry) → IsOneOf first batch f → IsOneOf first batch e → (f.index ≡ e.index → ⊥)
      → is_effective (after_entry g f).edges (parts_of_entry e) ≡ is_effective g.edges (parts_of_entry e)
  effective-other g f e of-f of-e differ =
      ap (λ (y : SimpleGraph). is_effective y.edges (parts_of_entry e)) (one-entry first batch g f of-f)
      ∙ ap (λ (t : Bool). cond e.add (not t) t)
      (contains-other g (parts_of_entry f) (changed_edge (parts_of_entry e)) (entries-apart first batch vertices is_batch f e of-f of-e differ))

  -- whatever entries of the batch stand before it, an entry changes the graph where its update is effective before them
  pub changes-anywhere : (g : SimpleGraph) (front : List Entry) (e : Entry) (back : List Entry)
      → AllByRecursion (IsOneOf first batch) (front ++ e ∷ back) → Distinct (indices (front ++ e ∷ back))
      → changes_graph e (after_entries g front) ≡ is_effective g.edges (parts_of_entry e)
  changes-anywhere g [] e back all once = changes-here first batch g e all.0
  changes-anywhere g (f ∷ front) e back all once =
      let differ : f.index ≡ e.index → ⊥ = λ same. true≢false (sym (index-in front e back)
      ∙ (ap (λ (k : ℕ). member k (indices (front ++ e ∷ back))) (sym same) ∙ once.0)) in
      changes-anywhere (after_entry g f) front e back all.1 once.1
      ∙ effective-other g f e all.0 (at-cut (IsOneOf first batch) front e back all.1) differ
