-- Lists of neighbours after an update, and the rows that they are put into.
use Rattle.std.proofs.Common.{◌≡◌, ◌<◌, ℕ, suc, zero, Bool, true, false, cond, not, ◌&&◌, ◌||◌, List, [], ◌∷◌, length, get_or, set, eqb, refl, sym}
use Rattle.std.proofs.Common.{◌∙◌, ap, ap₂, subst, inl, inr, arith, eq-eqb, eqb-true, ne_eqb}
use Rattle.std.specs.List.{remove}
use Rattle.std.specs.List.Sorted.{IsStrictlyIncreasing}
use Rattle.std.proofs.lemmas.Bool.{or_cases, or_right, and_parts, true≢false}
use Rattle.std.proofs.Math.Bool.{or-false}
use Rattle.std.proofs.lemmas.Bool.{not-true}
use Rattle.kc_lists.specs.Lists.{member}
use Rattle.kc_lists.proofs.Counting.{Contains-from_member}
use Rattle.kc_lists.proofs.Shared.{get_or-any}
use Rattle.kc_graph.specs.SimpleGraph.{SimpleGraph, adjacent}
use Rattle.kc_graph.specs.Edges.{with_edge, without_edge}
use Rattle.kc_graph.specs.Neighbours.{AreNeighbours}
use Rattle.kc_graph.specs.Rows.{row, graph_of, IsAdjacency, Inserted, Deleted, BothInserted, BothDeleted}
use Rattle.kc_graph.specs.Plans.{is_applied}
use Rattle.kc_graph.specs.Sharing.{AreListsAfter, IsChanged}
use Rattle.kc_graph.specs.declared.update.Update.{Update}
use Rattle.kc_graph.specs.declared.shared.ListsAfter.{ListsAfter}
use Rattle.kc_graph.proofs.Deleting.{deleted_at}
use Rattle.kc_graph.proofs.EdgeChanges.{adjacent-with, adjacent-without}
use Rattle.kc_graph.proofs.Ends.{joins}
use Rattle.kc_graph.proofs.NeighbourLists.{Rises-from_increasing, rising_same}
use Rattle.kc_graph.proofs.RowsLemmas.{adjacent-view}

-- the row at a place
pub row-here : (rows : List (List ℕ)) (v : ℕ) (r : List ℕ) → v < length rows → r ≡ get_or rows v r → row rows v ≡ r
row-here [] v r l e = absurd (omega arith)
row-here (x ∷ rows) zero r l e = sym e
row-here (x ∷ rows) (suc v) r l e = row-here rows v r (omega arith) e

-- to be in a list or the number, but not the number, is to be in the list, where it lacks the number
list-regained : (a e : Bool) → (e ≡ true → a ≡ false) → ((a || e) && not e) ≡ a
list-regained true true h = absurd (true≢false (h refl))
list-regained false true h = refl
list-regained true false h = refl
list-regained false false h = refl

-- An ascending list with the numbers of another one, and one more, is that list with it put in.
pub inserted_from : (xs ys : List ℕ) (w : ℕ) → IsStrictlyIncreasing xs → IsStrictlyIncreasing ys → member w xs ≡ false
    → ((b : ℕ) → member b ys ≡ (member b xs || eqb b w)) → Inserted xs ys w
inserted_from xs ys w ux uy lacks same =
    let there : member w ys ≡ true = same w ∙ or_right (member w xs) (eqb w w) (eq-eqb w w refl) in
    let (i, l, e) = Contains-from_member ys w there in
    let here : get_or ys i 0 ≡ w = get_or-any ys i 0 w l ∙ e in
    let d : Deleted ys (remove ys i) w = deleted_at ys w i uy l here in
    let back : remove ys i ≡ xs = rising_same (remove ys i) xs (Rises-from_increasing (remove ys i) d.ascends) (Rises-from_increasing xs ux)
    (λ z. d.kept z ∙ ap (λ (t : Bool). t && not (eqb z w)) (same z)
    ∙ list-regained (member z xs) (eqb z w) (λ t. ap (λ (k : ℕ). member k xs) (eqb-true z w t) ∙ lacks)) in
    record {
      longer = omega (arith, d.shorter, ap length back);
      gained = same;
      ascends = uy;
    }

-- An ascending list with the numbers of another one but for one is that list with it taken out.
pub deleted_from : (xs ys : List ℕ) (w : ℕ) → IsStrictlyIncreasing xs → IsStrictlyIncreasing ys → member w xs ≡ true
    → ((b : ℕ) → member b ys ≡ (member b xs && not (eqb b w))) → Deleted xs ys w
deleted_from xs ys w ux uy has same =
    let (i, l, e) = Contains-from_member xs w has in
    let here : get_or xs i 0 ≡ w = get_or-any xs i 0 w l ∙ e in
    let d : Deleted xs (remove xs i) w = deleted_at xs w i ux l here in
    let now : remove xs i ≡ ys = rising_same (remove xs i) ys (Rises-from_increasing (remove xs i) d.ascends) (Rises-from_increasing ys uy)
    (λ z. d.kept z ∙ sym (same z)) in
    record {
      shorter = omega (arith, d.shorter, ap length now);
      kept = same;
      ascends = uy;
    }

-- who is joined to the first end of an edge is its second
joins-u : (u v b : ℕ) → (u ≡ v → ⊥) → joins u v u b ≡ eqb b v
joins-u u v b differ = ap₂ (λ (s t : Bool). (s && eqb b v) || (t && eqb b u)) (eq-eqb u u refl) (ne_eqb u v differ) ∙ or-false (eqb b v)

-- who is joined to the second end of an edge is its first
joins-v : (u v b : ℕ) → (u ≡ v → ⊥) → joins u v v b ≡ eqb b u
joins-v u v b differ = ap₂ (λ (s t : Bool). (s && eqb b v) || (t && eqb b u)) (ne_eqb v u (λ e. differ (sym e))) (eq-eqb v v refl)

-- A list of the neighbours of one end `a` that gains the other end `w` has the neighbours once the edge came.
near-with : (g : SimpleGraph) (u v a w : ℕ) (old new : List ℕ) → (u ≡ v → ⊥) → w < g.size → ((b : ℕ) → joins u v a b ≡ eqb b w) → AreNeighbours g a old
    → Inserted old new w → AreNeighbours (with_edge g u v) a new
near-with g u v a w old new differ l ends near i = record {
  ascending = i.ascends;
  within = λ b m. elim (or_cases (member b old) (eqb b w) (sym (i.gained b) ∙ m)) [ inl k ↦ near.within b k | inr e ↦ omega (arith, eqb-true b w e) ];
  exact = λ b. i.gained b ∙ ap₂ (λ (s t : Bool). s || t) (near.exact b) (sym (ends b)) ∙ sym (adjacent-with g u v a b differ);
}

-- a list of the neighbours of one end that loses the other has the neighbours once the edge went
near-without : (g : SimpleGraph) (u v a w : ℕ) (old new : List ℕ) → (u ≡ v → ⊥) → ((b : ℕ) → joins u v a b ≡ eqb b w) → AreNeighbours g a old
    → Deleted old new w → AreNeighbours (without_edge g u v) a new
near-without g u v a w old new differ ends near d = record {
  ascending = d.ascends;
  within = λ b m. near.within b (and_parts (member b old) (not (eqb b w)) (sym (d.kept b) ∙ m)).0;
  exact = λ b. d.kept b ∙ ap₂ (λ (s t : Bool). s && not t) (near.exact b) (sym (ends b)) ∙ sym (adjacent-without g u v a b differ);
}

-- a list of the neighbours of one end that changes by the other has the neighbours after the update
near-end : (add : Bool) (g : SimpleGraph) (u v a w : ℕ) (old new : List ℕ) → (u ≡ v → ⊥) → w < g.size → ((b : ℕ) → joins u v a b ≡ eqb b w)
    → AreNeighbours g a old → IsChanged add old new w → AreNeighbours (cond add (with_edge g u v) (without_edge g u v)) a new
near-end true g u v a w old new differ l ends near h = near-with g u v a w old new differ l ends near h
near-end false g u v a w old new differ l ends near h = near-without g u v a w old new differ ends near h

-- A changed list of the first end has the neighbours of it after the update.
pub near-first : (add : Bool) (g : SimpleGraph) (u v : ℕ) (old new : List ℕ) → (u ≡ v → ⊥) → v < g.size
    → AreNeighbours g u old → IsChanged add old new v → AreNeighbours (cond add (with_edge g u v) (without_edge g u v)) u new
near-first add g u v old new differ l near h = near-end add g u v u v old new differ l (λ b. joins-u u v b differ) near h

-- and so has one of the second end
pub near-second : (add : Bool) (g : SimpleGraph) (u v : ℕ) (old new : List ℕ) → (u ≡ v → ⊥) → u < g.size
    → AreNeighbours g v old → IsChanged add old new u → AreNeighbours (cond add (with_edge g u v) (without_edge g u v)) v new
near-second add g u v old new differ l near h = near-end add g u v v u old new differ l (λ b. joins-v u v b differ) near h

-- The lists after an update are put into the rows.
module _ (rows : List (List ℕ)) (g : SimpleGraph) (view : graph_of rows ≡ g) (h : IsAdjacency rows) (u v : ℕ) (first second : List ℕ) (differ : u ≡ v → ⊥) where
  -- two vertices are adjacent where the one is in the row of the other
  was : (a b : ℕ) → adjacent g a b ≡ member b (row rows a)
  was a b = sym (adjacent-view rows g view h a b)

  -- where they were not adjacent, lists of the neighbours after the edge came put one number more in both rows
  pub put-added : adjacent g u v ≡ false → AreNeighbours (with_edge g u v) u first → AreNeighbours (with_edge g u v) v second
      → BothInserted rows (set (set rows u first) v second) u v
  put-added lacks near-u near-v = record {
    first = first;
    second = second;
    rows = refl;
    at_first = inserted_from (row rows u) first v (h.ascends u) near-u.ascending (sym (was u v) ∙ lacks)
        (λ b. near-u.exact b ∙ adjacent-with g u v u b differ ∙ ap₂ (λ (s t : Bool). s || t) (was u b) (joins-u u v b differ));
    at_second = inserted_from (row rows v) second u (h.ascends v) near-v.ascending (h.symmetric v u ∙ sym (was u v) ∙ lacks)
        (λ b. near-v.exact b ∙ adjacent-with g u v v b differ ∙ ap₂ (λ (s t : Bool). s || t) (was v b) (joins-v u v b differ));
  }

  -- where they were adjacent, lists of the neighbours after the edge went put one number less in both rows
  pub put-removed : adjacent g u v ≡ true → AreNeighbours (without_edge g u v) u first → AreNeighbours (without_edge g u v) v second
      → BothDeleted rows (set (set rows u first) v second) u v
  put-removed has near-u near-v = record {
    first = first;
    second = second;
    rows = refl;
    at_first = deleted_from (row rows u) first v (h.ascends u) near-u.ascending (sym (was u v) ∙ has)
        (λ b. near-u.exact b ∙ adjacent-without g u v u b differ ∙ ap₂ (λ (s t : Bool). s && not t) (was u b) (joins-u u v b differ));
    at_second = deleted_from (row rows v) second u (h.ascends v) near-v.ascending (h.symmetric v u ∙ sym (was u v) ∙ has)
        (λ b. near-v.exact b ∙ adjacent-without g u v v b differ ∙ ap₂ (λ (s t : Bool). s && not t) (was v b) (joins-v u v b differ));
  }

-- The same for the lists that an update asks for.
module _ (update : Update) (rows : List (List ℕ)) (g : SimpleGraph) (view : graph_of rows ≡ g) (h : IsAdjacency rows) (lists : ListsAfter)
    (applied : is_applied update g ≡ true) (after : AreListsAfter update g lists) where
  -- the ends of an update differ
  u-v : update.u ≡ update.v → ⊥
  u-v e = absurd (omega (arith, e, update.ordered))

  -- An edge to be added is not there, and stands in both rows then.
  pub both-added : update.add ≡ true
      → (adjacent g update.u update.v ≡ false) × BothInserted rows (set (set rows update.u lists.first) update.v lists.second) update.u update.v
  both-added add =
      let grown : cond update.add (with_edge g update.u update.v) (without_edge g update.u update.v) ≡ with_edge g update.u update.v =
      ap (λ (b : Bool). cond b (with_edge g update.u update.v) (without_edge g update.u update.v)) add in
      let lacks : adjacent g update.u update.v ≡ false =
      not-true (adjacent g update.u update.v)
      (sym (ap (λ (b : Bool). cond b (not (adjacent g update.u update.v)) (adjacent g update.u update.v)) add) ∙ applied) in (
        lacks,
        put-added rows g view h update.u update.v lists.first lists.second u-v lacks
            (subst (λ (t : SimpleGraph). AreNeighbours t update.u lists.first) grown after.first)
            (subst (λ (t : SimpleGraph). AreNeighbours t update.v lists.second) grown after.second),
      )

  -- One to be removed is there, and stands in neither row then.
  pub both-removed : update.add ≡ false
      → (adjacent g update.u update.v ≡ true) × BothDeleted rows (set (set rows update.u lists.first) update.v lists.second) update.u update.v
  both-removed gone =
      let less : cond update.add (with_edge g update.u update.v) (without_edge g update.u update.v) ≡ without_edge g update.u update.v =
      ap (λ (b : Bool). cond b (with_edge g update.u update.v) (without_edge g update.u update.v)) gone in
      let has : adjacent g update.u update.v ≡ true =
      sym (ap (λ (b : Bool). cond b (not (adjacent g update.u update.v)) (adjacent g update.u update.v)) gone) ∙ applied in (
        has,
        put-removed rows g view h update.u update.v lists.first lists.second u-v has
            (subst (λ (t : SimpleGraph). AreNeighbours t update.u lists.first) less after.first)
            (subst (λ (t : SimpleGraph). AreNeighbours t update.v lists.second) less after.second),
      )
