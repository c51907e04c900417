-- The list where the run for an arc has moved is topological for the arcs, and for the new one.
use Rattle.std.proofs.Common.{◌≡◌, ◌≢◌, ℕ, arith, true, false, List, [], ◌∷◌, sym, ◌∙◌, subst, inl, inr, true≢false}
use Rattle.std.proofs.lemmas.Bool.{cases_Bool, false≢true, false_from_ne_true}
use Rattle.kc_lists.specs.Lists.{Distinct, member}
use Rattle.kc_lists.proofs.Members.{member-cases}
use Rattle.kc_table.specs.Log.{Seen}
use Rattle.kc_order.specs.Runs.{InListOrder, IsRunBefore, with_run_after}
use Rattle.kc_order.specs.Standing.{StandsBefore, list_after}
use Rattle.kc_order.proofs.Orders.{is_before, before-here, before-later, before-stands, stands-before, stands-once}
use Rattle.kc_order.proofs.Orders.{run-back, run-front, run-inside, run-others, run-p}
use Rattle.kc_topo.specs.Arcs.{IsTopological, Reaches, arcs_after}
use Rattle.kc_topo.specs.Dags.{IsRunFor}
use Rattle.kc_topo.proofs.Walks.{never-itself, one-first, reaches-on, reaches-self, stands-on}

-- of two members of a run the one that stands first in the list comes first in the run
turn-before : (run list : List ℕ) → InListOrder run list → (x y : ℕ) → member x run ≡ true → member y run ≡ true → StandsBefore x y list
    → is_before x y run ≡ true
turn-before [] list turn x y m n s = absurd (false≢true m)
turn-before (z ∷ run) list turn x y m n s = elim (member-cases y z run n) [
  | inl ey ↦ elim (member-cases x z run m) [
    | inl ex ↦ absurd (never-itself y list (subst (λ (w : ℕ). StandsBefore w y list) (ex ∙ sym ey) s))
    | inr k ↦ absurd (stands-once x y list s (subst (λ (w : ℕ). StandsBefore w x list) (sym ey) (turn.0 x k)))
  ]
  | inr later ↦ elim (member-cases x z run m) [
    | inl ex ↦ before-here x y z run ex later
    | inr k ↦ before-later x y z run (turn-before run list turn.1 x y k later s)
  ]
]

module _ (seen : Seen) (a b : ℕ) (run : List ℕ) (is : IsRunFor seen a b run) where
  -- the arcs before
  abbrev arcs : List (ℕ × ℕ)
  arcs = arcs_after seen.table seen.log

  -- the list before
  abbrev list : List ℕ
  list = list_after seen.table seen.log

  -- the list after
  abbrev after : List ℕ
  after = with_run_after run a list

  -- each of the run stands before `a`
  in_run : (v : ℕ) → member v run ≡ true → StandsBefore v a list
  in_run v m = ((is.members v).0 m).1

  -- it is a run before a, of a list in which no item is a vertex of the table's own
  pub run-before : (fixed : ℕ) → fixed ≡ 0 → IsRunBefore fixed run a list
  run-before fixed none = record { turn = is.turn; before = in_run; free = λ x m. omega (arith, none) }

  -- `a` is none of the run
  a-apart : member a run ≡ false
  a-apart = false_from_ne_true (member a run) (λ m. never-itself a list (in_run a m))

  module _ (top : IsTopological arcs list) (acyclic : Reaches arcs b a → ⊥) (a-in : member a list ≡ true) (b-in : member b list ≡ true)
      (d : Distinct list) (dn : Distinct after) where
    -- each arc leads to a later vertex still
    pub still-topological : IsTopological arcs after
    still-topological x y arc =
        let s : StandsBefore x y list = top x y arc in
        before-stands x y after dn (elim (cases_Bool (member x run)) [
          | inl xm ↦ elim (cases_Bool (member y run)) [
            | inl ym ↦ run-inside run a list a-apart x y (turn-before run list is.turn x y xm ym s) a-in
            | inr yn ↦
                let far : Reaches arcs b y = reaches-on arcs b x y ((is.members x).0 xm).0 arc in
                let other : a ≢ y = λ e. acyclic (subst (λ (w : ℕ). Reaches arcs b w) (sym e) far) in
                elim (one-first a y list a-in s.second other) [
                  | inl t ↦ run-back run a list a-apart x y xm yn (stands-before a y list t)
                  | inr t ↦ absurd (true≢false (sym ((is.members y).1 (far, t)) ∙ yn))
                ]
          ]
          | inr xn ↦ elim (cases_Bool (member y run)) [
            | inl ym ↦ run-front run a list a-apart x y d xn ym (stands-before x a list (stands-on x y a list s (in_run y ym)))
            | inr yn ↦ run-others run a list a-apart x y xn yn ∙ stands-before x y list s
          ]
        ])

    -- and so does the new one
    pub new-leads : StandsBefore a b after
    new-leads = before-stands a b after dn (elim (cases_Bool (member b run)) [
      | inl m ↦ run-p run a list a-apart b m a-in
      | inr n ↦
          let other : a ≢ b = λ e. acyclic (subst (λ (w : ℕ). Reaches arcs b w) (sym e) (reaches-self arcs b)) in
          elim (one-first a b list a-in b-in other) [
            | inl s ↦ run-others run a list a-apart a b a-apart n ∙ stands-before a b list s
            | inr s ↦ absurd (true≢false (sym ((is.members b).1 (reaches-self arcs b, s)) ∙ n))
          ]
    ])
