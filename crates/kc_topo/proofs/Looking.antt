-- One vertex of a row is looked at: then it is settled, and so are those before it.
use Rattle.std.proofs.Common.{◌≡◌, ◌<◌, ◌≤◌, ◌+◌, ℕ, true, List, length, get_or, take, sym, ap, ◌∙◌, subst, arith, inl, inr}
use Rattle.std.proofs.lemmas.Bool.{cases_lt}
use Rattle.std.proofs.lemmas.List.{take_more}
use mathlib.Core.List.{IsPrefix}
use Rattle.kc_lists.specs.Lists.{Distinct, member}
use Rattle.kc_lists.proofs.Counting.{member-get_or, member-push_cases}
use Rattle.kc_lists.proofs.Members.{below_bound}
use Rattle.kc_table.specs.declared.view.Event.{Event}
use Rattle.kc_table.specs.Legal.{Legal}
use Rattle.kc_table.specs.Log.{TableName}
use Rattle.kc_table.proofs.Listed.{list-stands}
use Rattle.kc_order.specs.Standing.{list_after}
use Rattle.kc_topo.specs.Arcs.{arcs_after, has_arc}
use Rattle.kc_topo.specs.Dags.{IsDag}
use Rattle.kc_topo.specs.Searching.{AreSettled, IsSettled, IsTrail, Trail}
use Rattle.kc_topo.proofs.Trails.{get_or-prefix, member-prefix}

-- the list has vertices of the table alone
pub listed-low : (table : TableName) (log : List Event) → Legal table.shape table.opening log → (x : ℕ)
    → member x (list_after table log) ≡ true → x < table.shape.items
listed-low table log legal x m = (list-stands table.shape table.opening log legal).listed.within x m

-- what is settled stays so as the trail grows
pub settled-grows : (list : List ℕ) (a : ℕ) (t u : Trail) → IsPrefix t.vertices u.vertices → (w : ℕ) → IsSettled list a t w → IsSettled list a u w
settled-grows list a t u p w h = record { other = h.other; reached = λ s. member-prefix w t.vertices u.vertices p (h.reached s) }

-- where the first vertices of a row are settled, and the next one is, these are so together
pub settled-next : (list : List ℕ) (a : ℕ) (t u : Trail) (rows : List ℕ) (i : ℕ) → i < length rows → IsPrefix t.vertices u.vertices
    → ((w : ℕ) → member w (take i rows) ≡ true → IsSettled list a t w) → IsSettled list a u (get_or rows i 0)
    → (w : ℕ) → member w (take (i + 1) rows) ≡ true → IsSettled list a u w
settled-next list a t u rows i l p before here w m =
    elim (member-push_cases w (get_or rows i 0) (take i rows) (ap (member w) (sym (take_more rows i 0 l)) ∙ m)) [
      | inl k ↦ settled-grows list a t u p w (before w k)
      | inr e ↦ subst (IsSettled list a u) (sym e) here
    ]

module _ (table : TableName) (log : List Event) (dag : IsDag table log) (legal : Legal table.shape table.opening log)
    (t u : Trail) (rows : List ℕ) (a b place i : ℕ)
    (trail : IsTrail (arcs_after table log) (list_after table log) a b u) (in_place : place < length t.vertices) (grows : IsPrefix t.vertices u.vertices)
    (are : (w : ℕ) → member w rows ≡ has_arc (arcs_after table log) (get_or t.vertices place 0) w) (l : i < length rows) where
  -- the vertex that is looked at next
  abbrev next : ℕ
  next = get_or rows i 0

  -- an arc leads to it
  pub next-arc : has_arc (arcs_after table log) (get_or u.vertices place 0) next ≡ true
  next-arc = ap (λ z. has_arc (arcs_after table log) z next) (get_or-prefix t.vertices u.vertices place grows in_place)
      ∙ (sym (are next) ∙ member-get_or rows i 0 l)

  -- it is in the list
  pub next-listed : member next (list_after table log) ≡ true
  next-listed = (dag.topological (get_or u.vertices place 0) next next-arc).second

  -- it is a vertex of the table
  pub next-low : next < table.shape.items
  next-low = listed-low table log legal next next-listed

  -- the end of the new arc is in the list
  pub a-listed : member a (list_after table log) ≡ true
  a-listed = (trail.before (get_or u.vertices 0 0) (member-get_or u.vertices 0 0 trail.some)).second

-- All of a row was looked at. -----------------------------------------------------------------------------

-- where all of a row is settled, so is one vertex more of the trail
pub settled-place : (arcs : List (ℕ × ℕ)) (list : List ℕ) (a : ℕ) (t u : Trail) (rows : List ℕ) (place : ℕ) → place < length t.vertices
    → IsPrefix t.vertices u.vertices → AreSettled arcs list a t place → ((w : ℕ) → member w rows ≡ has_arc arcs (get_or t.vertices place 0) w)
    → ((w : ℕ) → member w rows ≡ true → IsSettled list a u w) → AreSettled arcs list a u (place + 1)
settled-place arcs list a t u rows place l p before are here k low w arc =
    let arc' : (j : ℕ) → j < length t.vertices → has_arc arcs (get_or u.vertices j 0) w ≡ has_arc arcs (get_or t.vertices j 0) w =
    λ j lj. ap (λ z. has_arc arcs z w) (get_or-prefix t.vertices u.vertices j p lj) in
    elim (cases_lt k place) [
      | inl less ↦ settled-grows list a t u p w (before k less w (sym (arc' k (omega (arith, less, l))) ∙ arc))
      | inr le ↦
          let e : k ≡ place = omega (arith, le, low) in
          here w (are w ∙ (sym (arc' place l) ∙ (ap (λ j. has_arc arcs (get_or u.vertices j 0) w) (sym e) ∙ arc)))
    ]

-- the vertices of a trail are no more than there are
pub trail-short : (t : Trail) → Distinct t.vertices → ((v : ℕ) → member v t.vertices ≡ true → v < t.size) → length t.vertices ≤ t.size
trail-short t d within = below_bound t.size t.vertices d within
