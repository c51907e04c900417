-- An edge stamp that is that of now means that the vertex has the neighbours that it had.
use Rattle.std.proofs.Common.{◌≡◌, ◌↔◌, ℕ, zero, suc, ◌+◌, ◌-◌, ◌<◌, ◌≤◌, Bool, true, false, cond, not, ◌&&◌, ◌||◌, List, [], ◌∷◌, ◌++◌, length, take}
use Rattle.std.proofs.Common.{get_or, reverse, eqb, ltb, refl, sym, ap, ap₂, ◌∙◌, subst, inl, inr, arith, lt-ltb, eq-eqb}
use Rattle.std.specs.List.{filter}
use Rattle.std.specs.Ordering.{eq_by_cmp}
use Rattle.std.specs.FinSet.{contains, contains-insert, contains-remove}
use Rattle.std.proofs.lemmas.Bool.{cases_Bool, cases_order, cases_eq, cases_lt, false_from_ne_true, and_parts, or_left, or_right}
use mathlib.Core.List.{IsPrefix}
use Rattle.kc_lists.specs.Lists.{below}
use Rattle.kc_graph.specs.SimpleGraph.{SimpleGraph, adjacent, pair_cmp}
use Rattle.kc_graph.specs.Edges.{edge, with_edge, without_edge}
use Rattle.kc_graph.specs.Neighbours.{AreNeighbours, neighbours_of}
use Rattle.kc_graph.proofs.Adding.{edge-present}
use Rattle.kc_graph.proofs.Removing.{edge-missing}
use Rattle.kc_graph.proofs.EdgeChanges.{adjacent-with, adjacent-without}
use Rattle.kc_graph.proofs.Ends.{joins, joins-true}
use Rattle.kc_graph.proofs.Law.{adjacent-self, adjacent-sym}
use Rattle.kc_graph.proofs.RowsLemmas.{pair_total, same_pair}
use Rattle.kc_table.specs.declared.entry.Entry.{Entry}
use Rattle.kc_table.specs.declared.view.Event.{Event}
use Rattle.kc_table.specs.Edges.{after_entry, after_entries, edges_after}
use Rattle.kc_table.specs.Log.{TableName}
use Rattle.kc_table.proofs.LegalLogs.{entries-prefix}
use Rattle.kc_agree.specs.Stamps.{made_by, number_of, changes_graph, names, last_change, edge_stamp, IsChangeOf}

-- An edge from a vertex to itself is none. ---------------------------------------------------------

-- the pair of an edge from a vertex to itself
edge-itself : (u : ℕ) → edge u u ≡ (u, u)
edge-itself u = elim (ltb u u) as (λ b. ◌≡◌ {A = ℕ × ℕ} (cond b (u, u) (u, u)) (u, u)) [ true ↦ refl | false ↦ refl ]

-- no pair of a lesser and a greater vertex is that
no_edge : (u a b : ℕ) → a < b → eq_by_cmp pair_cmp (a, b) (edge u u) ≡ false
no_edge u a b l = false_from_ne_true _ (λ t.
    let e : (a, b) ≡ (u, u) = same_pair (a, b) (edge u u) t ∙ edge-itself u in
    let first : a ≡ u = ap (λ (x : ℕ × ℕ). x.0) e in
    let second : b ≡ u = ap (λ (x : ℕ × ℕ). x.1) e in
    omega (arith, l, first, second))

-- a graph that has the same edges from each vertex to a greater one
same-by_pairs : (g h : SimpleGraph) → ((a b : ℕ) → a < b → contains h.edges (a, b) ≡ contains g.edges (a, b)) → (a b : ℕ) → adjacent h a b ≡ adjacent g a b
same-by_pairs g h same a b = elim (cases_order a b) [
  | inl e ↦ ap (adjacent h a) (sym e) ∙ (adjacent-self h a ∙ sym (ap (adjacent g a) (sym e) ∙ adjacent-self g a))
  | inr (inl l) ↦ rw (lt-ltb a b l) (same a b l)
  | inr (inr l) ↦ adjacent-sym h a b ∙ (rw (lt-ltb b a l) (same b a l) ∙ adjacent-sym g b a)
]

-- to put an edge between a vertex and itself changes no edge
with-itself : (g : SimpleGraph) (u a b : ℕ) → adjacent (with_edge g u u) a b ≡ adjacent g a b
with-itself g u = same-by_pairs g (with_edge g u u) (λ a b l.
    contains-insert pair_total g.edges (edge u u) (a, b) ∙ ap (λ t. t || contains g.edges (a, b)) (no_edge u a b l))

-- to take an edge between a vertex and itself changes no edge
without-itself : (g : SimpleGraph) (u a b : ℕ) → adjacent (without_edge g u u) a b ≡ adjacent g a b
without-itself g u = same-by_pairs g (without_edge g u u) (λ a b l.
    contains-remove pair_total g.edges (edge u u) (a, b) ∙ ap (λ t. not t && contains g.edges (a, b)) (no_edge u a b l))

-- An entry that is not applied, or that does not name the vertex. ----------------------------------

-- an end of an edge that the entry joins is named
joined_end-named : (e : Entry) (v w : ℕ) → joins e.u e.v v w ≡ true → names e v ≡ true
joined_end-named e v w j = elim (joins-true e.u e.v v w j) [
  | inl p ↦ or_left (eqb v e.u) (eqb v e.v) (eq-eqb v e.u p.0)
  | inr p ↦ or_right (eqb v e.u) (eqb v e.v) (eq-eqb v e.v p.0)
]

-- the same two ends are one edge
same_ends-adjacent : (g : SimpleGraph) (u v a b : ℕ) → joins u v a b ≡ true → adjacent g a b ≡ adjacent g u v
same_ends-adjacent g u v a b j = elim (joins-true u v a b j) [ inl p ↦ ap₂ (adjacent g) p.0 p.1 | inr p ↦ ap₂ (adjacent g) p.0 p.1 ∙ adjacent-sym g v u ]

-- where two tests don't hold together and the second holds, the first fails
not_both : (p q : Bool) → (p && q) ≡ false → q ≡ true → p ≡ false
not_both p q h k = grind (arith, h, k)

-- a test stays with another one added to it that holds only where it does
or-implied : (a j : Bool) → (j ≡ true → a ≡ true) → (a || j) ≡ a
or-implied a j h = elim (cases_Bool j) [ inl t ↦ let k = h t in grind (arith, t, k) | inr f ↦ grind (arith, f) ]

-- a test stays with another one taken from it that holds only where it fails
and_not-excluded : (a j : Bool) → (j ≡ true → a ≡ false) → (a && not j) ≡ a
and_not-excluded a j h = elim (cases_Bool j) [ inl t ↦ let k = h t in grind (arith, t, k) | inr f ↦ grind (arith, f) ]

-- a test whose negation fails holds
not_not : (b : Bool) → not b ≡ false → b ≡ true
not_not b h = grind (arith, h)

-- a put leaves an edge where it was there already, or other ends are asked for
with-same : (g : SimpleGraph) (u v a b : ℕ) → (joins u v a b ≡ true → adjacent g u v ≡ true) → adjacent (with_edge g u v) a b ≡ adjacent g a b
with-same g u v a b h = elim (cases_eq u v) [
  | inl e ↦ ap (λ z. adjacent (with_edge g u z) a b) (sym e) ∙ with-itself g u a b
  | inr differ ↦ adjacent-with g u v a b differ ∙ or-implied (adjacent g a b) (joins u v a b) (λ j. same_ends-adjacent g u v a b j ∙ h j)
]

-- a removal leaves an edge where it was not there, or other ends are asked for
without-same : (g : SimpleGraph) (u v a b : ℕ) → (joins u v a b ≡ true → adjacent g u v ≡ false) → adjacent (without_edge g u v) a b ≡ adjacent g a b
without-same g u v a b h = elim (cases_eq u v) [
  | inl e ↦ ap (λ z. adjacent (without_edge g u z) a b) (sym e) ∙ without-itself g u a b
  | inr differ ↦ adjacent-without g u v a b differ ∙ and_not-excluded (adjacent g a b) (joins u v a b) (λ j. same_ends-adjacent g u v a b j ∙ h j)
]

-- an entry that is not applied, or does not name the vertex, changes no edge of it
pub neighbours-unchanged : (g : SimpleGraph) (e : Entry) (v : ℕ) → (changes_graph e g && names e v) ≡ false → (w : ℕ)
    → adjacent (after_entry g e) v w ≡ adjacent g v w
neighbours-unchanged g e v none w =
    elim e.add as (λ b. (cond b (not (adjacent g e.u e.v)) (adjacent g e.u e.v) && names e v) ≡ false
    → adjacent (cond b (with_edge g e.u e.v) (without_edge g e.u e.v)) v w ≡ adjacent g v w) [
      | true ↦ λ h. with-same g e.u e.v v w (λ j. not_not _ (not_both _ _ h (joined_end-named e v w j)))
      | false ↦ λ h. without-same g e.u e.v v w (λ j. not_both _ _ h (joined_end-named e v w j))
    ] none

-- an entry leaves the number of vertices
pub size-after : (g : SimpleGraph) (e : Entry) → (after_entry g e).size ≡ g.size
size-after g e = elim e.add as (λ b. (cond b (with_edge g e.u e.v) (without_edge g e.u e.v)).size ≡ g.size) [ true ↦ refl | false ↦ refl ]

-- entries leave the number of vertices
pub size-after_all : (g : SimpleGraph) (es : List Entry) → (after_entries g es).size ≡ g.size
size-after_all g [] = refl
size-after_all g (e ∷ es) = size-after_all (after_entry g e) es ∙ size-after g e

-- a vertex with the same edges has the same list of neighbours
same_neighbours : (g h : SimpleGraph) (v : ℕ) → h.size ≡ g.size → ((w : ℕ) → adjacent h v w ≡ adjacent g v w) → neighbours_of h v ≡ neighbours_of g v
same_neighbours g h v size same i = reverse (filter (λ w. same w i) (below (size i)))

-- an entry that is not applied, or does not name the vertex, leaves the list of its neighbours
pub unchanged_list : (g : SimpleGraph) (e : Entry) (v : ℕ) → (changes_graph e g && names e v) ≡ false → neighbours_of (after_entry g e) v ≡ neighbours_of g v
unchanged_list g e v none = same_neighbours g (after_entry g e) v (size-after g e) (neighbours-unchanged g e v none)

-- Along entries. ------------------------------------------------------------------------------------

-- a stamp of an entry before these grows
pub no_less : (g : SimpleGraph) (es : List Entry) (number v stamp : ℕ) → stamp ≤ number → stamp ≤ last_change g es number v stamp
no_less g [] number v stamp l = omega arith
no_less g (e ∷ es) number v stamp l =
    elim (changes_graph e g && names e v) as (λ b. stamp ≤ last_change (after_entry g e) es (suc number) v (cond b (suc number) stamp)) [
      | true ↦ let more = no_less (after_entry g e) es (suc number) v (suc number) (omega arith) in omega (arith, more, l)
      | false ↦ no_less (after_entry g e) es (suc number) v stamp (omega (arith, l))
    ]

-- nothing is taken of none
take_none : (k : ℕ) → ◌≡◌ {A = List Entry} (take k []) []
take_none zero = refl
take_none (suc k) = refl

-- The edges of the vertex after the first entries are those after all, where none behind them changes one.
pub same_row : (g : SimpleGraph) (es : List Entry) (number v stamp at : ℕ) → last_change g es number v stamp ≤ at → (w : ℕ)
    → adjacent (after_entries g es) v w ≡ adjacent (after_entries g (take (at - number) es)) v w
same_row g [] number v stamp at le w = ap (λ es. adjacent (after_entries g es) v w) (sym (take_none (at - number)))
same_row g (e ∷ es) number v stamp at le w =
    let rest = same_row (after_entry g e) es (suc number) v (cond (changes_graph e g && names e v) (suc number) stamp) at le w in
    elim (cases_lt number at) [
      | inl before ↦
          let k : at - number ≡ suc (at - suc number) = omega (arith, before) in
          rest ∙ ap (λ n. adjacent (after_entries g (take n (e ∷ es))) v w) (sym k)
      | inr behind ↦
          let from : ℕ → ℕ = λ k. last_change (after_entry g e) es (suc number) v k in
          let more : suc number ≤ from (suc number) = no_less (after_entry g e) es (suc number) v (suc number) (omega arith) in
          let none : (changes_graph e g && names e v) ≡ false = false_from_ne_true _ (λ t.
          let is : from (cond (changes_graph e g && names e v) (suc number) stamp) ≡ from (suc number) =
          ap (λ b. from (cond b (suc number) stamp)) t in
          omega (arith, more, is, le, behind)) in
          let zero_now : at - number ≡ 0 = omega (arith, behind) in
          let zero_then : at - suc number ≡ 0 = omega (arith, behind) in
          rest
          ∙ (ap (λ n. adjacent (after_entries (after_entry g e) (take n es)) v w) zero_then
          ∙ (neighbours-unchanged g e v none w ∙ ap (λ n. adjacent (after_entries g (take n (e ∷ es))) v w) (sym zero_now)))
    ]

-- the edges of a vertex after entries up to its stamp or further are those of now
pub current_row : (table : TableName) (opened : SimpleGraph) (stamps : List ℕ) (log : List Event) (v at : ℕ) → edge_stamp table opened stamps log v ≤ at
    → (w : ℕ) → adjacent (after_entries opened (made_by table log).entries) v w ≡ adjacent (edges_after opened table.shape table.opening log at) v w
current_row table opened stamps log v at le = same_row opened (made_by table log).entries table.shape.base v _ at le

-- the graphs have as many vertices
pub same_size : (table : TableName) (opened : SimpleGraph) (log : List Event) (at : ℕ)
    → (after_entries opened (made_by table log).entries).size ≡ (edges_after opened table.shape table.opening log at).size
same_size table opened log at =
    let entries = (made_by table log).entries in
    size-after_all opened entries ∙ sym (size-after_all opened (take (at - table.shape.base) entries))

-- the list of a vertex's neighbours after entries up to its stamp or further is that of now
pub current_list : (table : TableName) (opened : SimpleGraph) (stamps : List ℕ) (log : List Event) (v at : ℕ) → edge_stamp table opened stamps log v ≤ at
    → neighbours_of (after_entries opened (made_by table log).entries) v ≡ neighbours_of (edges_after opened table.shape table.opening log at) v
current_list table opened stamps log v at le =
    same_neighbours (edges_after opened table.shape table.opening log at) (after_entries opened (made_by table log).entries) v
    (same_size table opened log at) (current_row table opened stamps log v at le)

-- in the words of neighbours
pub current_neighbours : (table : TableName) (opened : SimpleGraph) (stamps : List ℕ) (log : List Event) (v at : ℕ) (ws : List ℕ)
    → edge_stamp table opened stamps log v ≤ at
    → AreNeighbours (edges_after opened table.shape table.opening log at) v ws ↔ AreNeighbours (after_entries opened (made_by table log).entries) v ws
current_neighbours table opened stamps log v at ws le =
    let size = same_size table opened log at in
    let row = current_row table opened stamps log v at le in (
      λ h. record { ascending = h.ascending; within = λ w m. omega (arith, h.within w m, size); exact = λ w. h.exact w ∙ sym (row w) },
      λ h. record { ascending = h.ascending; within = λ w m. omega (arith, h.within w m, size); exact = λ w. h.exact w ∙ row w },
    )

-- Along a log. ----------------------------------------------------------------------------------------

-- the front of a longer list
take_front : {A : Type 0} (k : ℕ) (xs ys : List A) → k ≤ length xs → take k (xs ++ ys) ≡ take k xs
take_front zero xs ys l = refl
take_front {A} (suc k) [] ys l = absurd (omega (arith, l))
take_front {A} (suc k) (x ∷ xs) ys l = ap (λ zs. x ∷ zs) (take_front k xs ys (omega (arith, l)))

-- the edges after a number of entries that were made stay as they were
pub same_edges : (table : TableName) (opened : SimpleGraph) (p q : List Event) (at : ℕ) → IsPrefix p q → at ≤ number_of table p
    → edges_after opened table.shape table.opening q at ≡ edges_after opened table.shape table.opening p at
same_edges table opened p q at pre le =
    let more = entries-prefix table.shape table.opening p q pre in
    let k = at - table.shape.base in
    ap (λ es. after_entries opened (take k es)) (sym more.1) ∙ ap (after_entries opened) (take_front k (made_by table p).entries more.0 (omega (arith, le)))

-- One entry more. ---------------------------------------------------------------------------------------

-- one entry behind all others
pub after_entries-push : (g : SimpleGraph) (es : List Entry) (x : Entry) → after_entries g (es ++ x ∷ []) ≡ after_entry (after_entries g es) x
after_entries-push g [] x = refl
after_entries-push g (e ∷ es) x = after_entries-push (after_entry g e) es x

-- one entry more changes the last change of the vertices that it names
pub last_change-push : (g : SimpleGraph) (es : List Entry) (x : Entry) (number v stamp : ℕ)
    → last_change g (es ++ x ∷ []) number v stamp
    ≡ cond (changes_graph x (after_entries g es) && names x v) (number + length es + 1) (last_change g es number v stamp)
last_change-push g [] x number v stamp = ap (λ n. cond (changes_graph x g && names x v) n stamp) (omega arith)
last_change-push g (e ∷ es) x number v stamp =
    let now = cond (changes_graph e g && names e v) (suc number) stamp in
    last_change-push (after_entry g e) es x (suc number) v now
    ∙ ap (λ n. cond (changes_graph x (after_entries (after_entry g e) es) && names x v) n (last_change (after_entry g e) es (suc number) v now)) (omega arith)

-- the edge stamps of a log with one entry more
pub stamp_next : (table : TableName) (opened : SimpleGraph) (stamps : List ℕ) (old new : List Event) (x : Entry) (v : ℕ)
    → (made_by table new).entries ≡ (made_by table old).entries ++ x ∷ []
    → edge_stamp table opened stamps new v
    ≡ cond (changes_graph x (after_entries opened (made_by table old).entries) && names x v)
    (number_of table old + 1) (edge_stamp table opened stamps old v)
stamp_next table opened stamps old new x v is =
    ap (λ es. last_change opened es table.shape.base v (get_or stamps v 0)) is
    ∙ last_change-push opened (made_by table old).entries x table.shape.base v (get_or stamps v 0)

-- the graph after a log with one entry more
pub graph_next : (table : TableName) (opened : SimpleGraph) (old new : List Event) (x : Entry)
    → (made_by table new).entries ≡ (made_by table old).entries ++ x ∷ []
    → after_entries opened (made_by table new).entries ≡ after_entry (after_entries opened (made_by table old).entries) x
graph_next table opened old new x is = ap (after_entries opened) is ∙ after_entries-push opened (made_by table old).entries x

-- an entry that is not applied leaves the graph as it is
pub not_applied : (g : SimpleGraph) (e : Entry) → (e.u ≡ e.v → ⊥) → changes_graph e g ≡ false → after_entry g e ≡ g
not_applied g e differ none =
    elim e.add as (λ b. cond b (not (adjacent g e.u e.v)) (adjacent g e.u e.v) ≡ false → cond b (with_edge g e.u e.v) (without_edge g e.u e.v) ≡ g) [
      | true ↦ λ h. sym (edge-present g e.u e.v differ (not_not _ h))
      | false ↦ λ h. sym (edge-missing g e.u e.v differ h)
    ] none

-- A stamp is the number of an entry, or as it was at the opening. ----------------------------------------

-- a stamp that has risen is the number of an entry that changed the vertex's edges
pub last_changed : (g : SimpleGraph) (es : List Entry) (number v stamp : ℕ) → stamp < last_change g es number v stamp
    → IsChangeOf g es number v (last_change g es number v stamp)
last_changed g [] number v stamp lt = absurd (omega (arith, lt))
last_changed g (e ∷ es) number v stamp lt = elim (cases_Bool (changes_graph e g && names e v)) [
  | inl t ↦
      let from : ℕ → ℕ = λ k. last_change (after_entry g e) es (suc number) v k in
      let is : last_change g (e ∷ es) number v stamp ≡ from (suc number) = ap (λ b. from (cond b (suc number) stamp)) t in
      elim (cases_lt (suc number) (from (suc number))) [
        | inl later ↦
            let behind = last_changed (after_entry g e) es (suc number) v (suc number) later in
            subst (IsChangeOf g (e ∷ es) number v) (sym is) (behind_first g e es number v _ behind)
        | inr this ↦ record {
          front = [];
          entry = e;
          back = es;
          is = refl;
          number_is = omega (arith, is, this, no_less (after_entry g e) es (suc number) v (suc number) (omega arith));
          applied = (and_parts _ _ t).0;
          names_it = (and_parts _ _ t).1;
        }
      ]
  | inr f ↦
      let from : ℕ → ℕ = λ k. last_change (after_entry g e) es (suc number) v k in
      let is : last_change g (e ∷ es) number v stamp ≡ from stamp = ap (λ b. from (cond b (suc number) stamp)) f in
      let behind = last_changed (after_entry g e) es (suc number) v stamp (omega (arith, lt, is)) in
      subst (IsChangeOf g (e ∷ es) number v) (sym is) (behind_first g e es number v _ behind)
]
  where
    behind_first : (g : SimpleGraph) (e : Entry) (es : List Entry) (number v now : ℕ) → IsChangeOf (after_entry g e) es (suc number) v now
        → IsChangeOf g (e ∷ es) number v now
    behind_first g e es number v now h = record {
      front = e ∷ h.front;
      entry = h.entry;
      back = h.back;
      is = ap (λ xs. e ∷ xs) h.is;
      number_is = omega (arith, h.number_is);
      applied = h.applied;
      names_it = h.names_it;
    }

-- a stamp is no greater than the number of the last entry
pub no_later : (g : SimpleGraph) (es : List Entry) (number v stamp : ℕ) → stamp ≤ number → last_change g es number v stamp ≤ number + length es
no_later g [] number v stamp l = omega (arith, l)
no_later g (e ∷ es) number v stamp l =
    elim (changes_graph e g && names e v) as (λ b. last_change (after_entry g e) es (suc number) v (cond b (suc number) stamp) ≤ number + suc (length es)) [
      | true ↦ let more = no_later (after_entry g e) es (suc number) v (suc number) (omega arith) in omega (arith, more)
      | false ↦ let more = no_later (after_entry g e) es (suc number) v stamp (omega (arith, l)) in omega (arith, more)
    ]
