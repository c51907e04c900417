-- Vertices that are sorted by their places stand in the list's order.
use Rattle.std.proofs.Common.{◌≡◌, ◌≢◌, ◌<◌, ◌≤◌, ℕ, suc, true, cond, List, [], ◌∷◌, eqb, length, get_or, sym, ap, ◌∙◌, arith, inl, inr}
use Rattle.std.proofs.Common.{true≢false}
use Rattle.std.specs.List.Sorted.{IsNonDecreasingBy}
use Rattle.std.proofs.lemmas.Bool.{false_from_ne_true}
use Rattle.kc_lists.specs.Lists.{Distinct, member, place_of}
use Rattle.kc_lists.proofs.Members.{member-head, member-tail, place_of-none}
use Rattle.kc_table.specs.declared.view.Event.{Event}
use Rattle.kc_table.specs.Legal.{Legal}
use Rattle.kc_table.specs.Log.{TableName}
use Rattle.kc_order.specs.Runs.{InListOrder}
use Rattle.kc_order.specs.Standing.{list_after}
use Rattle.kc_topo.specs.Dags.{IsDag}
use Rattle.kc_topo.proofs.Looking.{listed-low}
use Rattle.kc_topo.proofs.Walks.{at-place, one-first}

-- Sorted by places. ---------------------------------------------------------------------------------------

-- distinct members of a list, sorted by their places there, are in the list's order
pub sorted-turn : (list run : List ℕ) → IsNonDecreasingBy (λ x. place_of x list) run → Distinct run
    → ((v : ℕ) → member v run ≡ true → member v list ≡ true) → InListOrder run list
sorted-turn list [] up d listed = tt
sorted-turn list (x ∷ run) up d listed = (
  (λ y m.
      let at = at-place y run m in
      let le : place_of x list ≤ place_of (get_or run (place_of y run) 0) list = up 0 (suc (place_of y run)) 0 (omega arith) (omega (arith, at.0)) in
      let other : x ≢ y = λ e. true≢false (sym (ap (λ w. member w run) e ∙ m) ∙ d.0) in
      elim (one-first x y list (listed x (member-head x run)) (listed y (member-tail y x run m)) other) [
        | inl s ↦ s
        | inr s ↦ absurd (omega (arith, s.before, le, ap (λ w. place_of w list) at.1))
      ]),
  sorted-turn list run (λ i j e le lt. up (suc i) (suc j) e (omega (arith, le)) (omega (arith, lt))) d.1 (λ v m. listed v (member-tail v x run m)),
)

-- Places compared. ------------------------------------------------------------------------------------------

-- a vertex has a place within the list
pub place-low : (table : TableName) (log : List Event) → IsDag table log → (x : ℕ) → x < table.shape.items
    → place_of x (list_after table log) < length (list_after table log)
place-low table log dag x l = (at-place x (list_after table log) (dag.vertices x l)).0

-- a number that is no vertex has the place behind the list
pub place-high : (table : TableName) (log : List Event) → Legal table.shape table.opening log → (x : ℕ) → table.shape.items ≤ x
    → place_of x (list_after table log) ≡ length (list_after table log)
place-high table log legal x h = place_of-none x (list_after table log)
    (false_from_ne_true (member x (list_after table log)) (λ m. let l = listed-low table log legal x m in omega (arith, l, h)))
