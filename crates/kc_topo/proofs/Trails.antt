-- What a search has reached: where all is settled, each vertex that walks reach and that stands before a.
use Rattle.std.proofs.Common.{◌≡◌, ◌<◌, ◌+◌, ◌↔◌, ℕ, zero, suc, true, List, [], ◌∷◌, ◌++◌, length, get_or, refl, sym, ap, ◌∙◌, subst, arith}
use Rattle.std.proofs.Common.{inl, inr, length-append}
use Rattle.std.proofs.lemmas.Bool.{cases_eq, cases_lt, false≢true}
use mathlib.Core.List.{IsPrefix}
use Rattle.kc_lists.specs.Lists.{member, place_of}
use Rattle.kc_lists.proofs.Counting.{member-get_or, member-push_cases}
use Rattle.kc_lists.proofs.Members.{member-append_left}
use Rattle.kc_table.specs.Log.{Seen}
use Rattle.kc_order.specs.Runs.{InListOrder}
use Rattle.kc_order.specs.Standing.{StandsBefore, list_after}
use Rattle.kc_topo.specs.Arcs.{IsTopological, LeadsTo, Reaches, arcs_after, has_arc}
use Rattle.kc_topo.specs.Dags.{IsRunFor}
use Rattle.kc_topo.specs.Searching.{AreSettled, IsSettled, IsTrail, Trail}
use Rattle.kc_topo.proofs.Walks.{at-place, leads-later, never-itself, none-back, reaches-later, reaches-on, reaches-self, stands-on, steps-of}

-- Lists that grow at the end. ------------------------------------------------------------------------

-- what stands in the first of two lists stands there in both together
get_or-front : (xs ys : List ℕ) (k : ℕ) → k < length xs → get_or (xs ++ ys) k 0 ≡ get_or xs k 0
get_or-front [] ys k l = absurd (omega (arith, l))
get_or-front (x ∷ xs) ys zero l = refl
get_or-front (x ∷ xs) ys (suc k) l = get_or-front xs ys k (omega (arith, l))

-- the last one stands behind all before it
get_or-end : (xs : List ℕ) (x : ℕ) → get_or (xs ++ x ∷ []) (length xs) 0 ≡ x
get_or-end [] x = refl
get_or-end (y ∷ xs) x = get_or-end xs x

-- what stands in a list's front stands there in the whole
pub get_or-prefix : (xs ys : List ℕ) (k : ℕ) → IsPrefix xs ys → k < length xs → get_or ys k 0 ≡ get_or xs k 0
get_or-prefix xs ys k p l = ap (λ zs. get_or zs k 0) (sym p.1) ∙ get_or-front xs p.0 k l

-- what is in a list's front is in the whole
pub member-prefix : (x : ℕ) (xs ys : List ℕ) → IsPrefix xs ys → member x xs ≡ true → member x ys ≡ true
member-prefix x xs ys p m = ap (member x) (sym p.1) ∙ member-append_left x xs p.0 m

-- A trail. ---------------------------------------------------------------------------------------------

module _ (arcs : List (ℕ × ℕ)) (list : List ℕ) (a b : ℕ) where
  -- it begins with b alone
  pub trail-begins : (t : Trail) (place : ℕ) → t.vertices ≡ b ∷ [] → t.parents ≡ place ∷ [] → StandsBefore b a list → IsTrail arcs list a b t
  trail-begins t place are ps s = record {
    some = omega (arith, ap length are);
    one_each = omega (arith, ap length are, ap length ps);
    first = ap (λ zs. get_or zs 0 0) are;
    back = λ k low high. absurd (omega (arith, low, high, ap length are));
    arcs_are = λ k low high. absurd (omega (arith, low, high, ap length are));
    before = λ v m. elim (member-push_cases v b [] (ap (member v) (sym are) ∙ m)) [
      | inl none ↦ absurd (false≢true none)
      | inr e ↦ subst (λ (z : ℕ). StandsBefore z a list) (sym e) s
    ];
  }

  -- one more is reached from the one at a place
  pub trail-grows : (t u : Trail) (v place : ℕ) → IsTrail arcs list a b t → place < length t.vertices
      → has_arc arcs (get_or t.vertices place 0) v ≡ true → StandsBefore v a list → u.vertices ≡ t.vertices ++ v ∷ [] → u.parents ≡ t.parents ++ place ∷ []
      → IsTrail arcs list a b u
  trail-grows t u v place h in_place arc s vs ps =
      let long = h.one_each in
      let n = length t.vertices in
      let len : length u.vertices ≡ n + 1 = ap length vs ∙ length-append t.vertices (v ∷ []) in
      let old : (k : ℕ) → k < n → get_or u.vertices k 0 ≡ get_or t.vertices k 0 = λ k l. ap (λ zs. get_or zs k 0) vs ∙ get_or-front t.vertices (v ∷ []) k l in
      let parent : (k : ℕ) → k < n → get_or u.parents k 0 ≡ get_or t.parents k 0 =
      λ k l. ap (λ zs. get_or zs k 0) ps ∙ get_or-front t.parents (place ∷ []) k (omega (arith, l, long)) in
      let new : get_or u.vertices n 0 ≡ v = ap (λ zs. get_or zs n 0) vs ∙ get_or-end t.vertices v in
      let from : get_or u.parents n 0 ≡ place = ap (λ zs. get_or zs n 0) ps
      ∙ (ap (λ k. get_or (t.parents ++ place ∷ []) k 0) (sym long) ∙ get_or-end t.parents place) in
      record {
        some = omega (arith, len);
        one_each = omega (arith, long, len, ap length ps, length-append t.parents (place ∷ []));
        first = old 0 h.some ∙ h.first;
        back = λ k low high. elim (cases_lt k n) [
          | inl l ↦ omega (arith, parent k l, h.back k low l)
          | inr g ↦ (let e : k ≡ n = omega (arith, g, high, len) in omega (arith, ap (λ j. get_or u.parents j 0) e, from, e, in_place))
        ];
        arcs_are = λ k low high. elim (cases_lt k n) [
          | inl l ↦ ap (λ j. has_arc arcs (get_or u.vertices j 0) (get_or u.vertices k 0)) (parent k l)
              ∙ ((λ i. has_arc arcs (old (get_or t.parents k 0) (omega (arith, l, h.back k low l)) i) (old k l i)) ∙ h.arcs_are k low l)
          | inr g ↦
              let e : k ≡ n = omega (arith, g, high, len) in
              let at : get_or u.parents k 0 ≡ place = ap (λ j. get_or u.parents j 0) e ∙ from in
              let to : get_or u.vertices k 0 ≡ v = ap (λ j. get_or u.vertices j 0) e ∙ new in
              (λ i. has_arc arcs (get_or u.vertices (at i) 0) (to i)) ∙ (ap (λ z. has_arc arcs z v) (old place in_place) ∙ arc)
        ];
        before = λ w m. elim (member-push_cases w v t.vertices (ap (member w) (sym vs) ∙ m)) [
          | inl k ↦ h.before w k
          | inr e ↦ subst (λ (z : ℕ). StandsBefore z a list) (sym e) s
        ];
      }

  -- walks from b reach all of it
  reaches-place : (t : Trail) → IsTrail arcs list a b t → (n k : ℕ) → k < n → k < length t.vertices → Reaches arcs b (get_or t.vertices k 0)
  reaches-place t h zero k l high = absurd (omega (arith, l))
  reaches-place t h (suc n) k l high = elim (cases_eq k 0) [
    | inl e ↦ subst (λ (z : ℕ). Reaches arcs b z) (sym (ap (λ j. get_or t.vertices j 0) e ∙ h.first)) (reaches-self arcs b)
    | inr ne ↦
        let back = h.back k (omega (arith, ne)) high in
        reaches-on arcs b (get_or t.vertices (get_or t.parents k 0) 0) (get_or t.vertices k 0)
        (reaches-place t h n (get_or t.parents k 0) (omega (arith, back, l)) (omega (arith, back, high)))
        (h.arcs_are k (omega (arith, ne)) high)
  ]

  -- each vertex of a trail is reached
  pub trail-reaches : (t : Trail) → IsTrail arcs list a b t → (v : ℕ) → member v t.vertices ≡ true → Reaches arcs b v
  trail-reaches t h v m =
      let at = at-place v t.vertices m in
      subst (λ (z : ℕ). Reaches arcs b z) at.1 (reaches-place t h (length t.vertices) (place_of v t.vertices) at.0 at.0)

  module _ (top : IsTopological arcs list) (t : Trail) (h : IsTrail arcs list a b t) (done : AreSettled arcs list a t (length t.vertices)) where
    settled : (x : ℕ) → member x t.vertices ≡ true → (w : ℕ) → has_arc arcs x w ≡ true → IsSettled list a t w
    settled x m w arc =
        let at = at-place x t.vertices m in
        done (place_of x t.vertices) at.0 w (ap (λ z. has_arc arcs z w) at.1 ∙ arc)

    -- what a walk leads to from there and stands before a was reached
    leads-reached : (x v : ℕ) (ws : List ℕ) → member x t.vertices ≡ true → LeadsTo arcs x v ws → StandsBefore v a list → member v t.vertices ≡ true
    leads-reached x v [] m e s = subst (λ (z : ℕ). member z t.vertices ≡ true) e m
    leads-reached x v (w ∷ ws) m steps s =
        let before : StandsBefore w a list = elim (leads-later arcs list top w v ws steps.1) [
          | inl e ↦ subst (λ (z : ℕ). StandsBefore z a list) (sym e) s
          | inr l ↦ stands-on w v a list l s
        ] in
        leads-reached w v ws ((settled x m w steps.0).reached before) steps.1 s

    -- and none leads to a
    leads-never : (x : ℕ) (ws : List ℕ) → member x t.vertices ≡ true → LeadsTo arcs x a ws → ⊥
    leads-never x [] m e = never-itself a list (subst (λ (z : ℕ). StandsBefore z a list) e (h.before x m))
    leads-never x (w ∷ ws) m steps =
        let one = settled x m w steps.0 in
        elim (leads-later arcs list top w a ws steps.1) [
          | inl e ↦ one.other e
          | inr l ↦ leads-never w ws (one.reached l) steps.1
        ]

    b-in : member b t.vertices ≡ true
    b-in = subst (λ (z : ℕ). member z t.vertices ≡ true) h.first (member-get_or t.vertices 0 0 h.some)

    pub settled-acyclic : Reaches arcs b a → ⊥
    settled-acyclic r = let s = steps-of arcs b a r in leads-never b s.0 b-in s.1

    pub settled-members : (v : ℕ) → (member v t.vertices ≡ true) ↔ (Reaches arcs b v × StandsBefore v a list)
    settled-members v = (
      (λ m. (trail-reaches t h v m, h.before v m)),
      (λ r. let s = steps-of arcs b v r.0 in leads-reached b v s.0 b-in s.1 r.1),
    )

-- the run for an arc is what the search reached, in the list's order
pub run-of : (seen : Seen) (a b : ℕ) (t : Trail) (run : List ℕ) → IsTopological (arcs_after seen.table seen.log) (list_after seen.table seen.log)
    → IsTrail (arcs_after seen.table seen.log) (list_after seen.table seen.log) a b t
    → AreSettled (arcs_after seen.table seen.log) (list_after seen.table seen.log) a t (length t.vertices)
    → InListOrder run (list_after seen.table seen.log) → ((v : ℕ) → member v run ≡ member v t.vertices)
    → IsRunFor seen a b run × (Reaches (arcs_after seen.table seen.log) b a → ⊥)
run-of seen a b t run top h done turn same =
    let arcs = arcs_after seen.table seen.log in
    let list = list_after seen.table seen.log in (
      record {
        turn = turn;
        members = λ v. let is = settled-members arcs list a b top t h done v in ((λ m. is.0 (sym (same v) ∙ m)), (λ r. same v ∙ is.1 r));
      },
      settled-acyclic arcs list a b top t h done,
    )

-- where a stands before b already, none moves
pub run-of_none : (seen : Seen) (a b : ℕ) → IsTopological (arcs_after seen.table seen.log) (list_after seen.table seen.log)
    → StandsBefore a b (list_after seen.table seen.log) → IsRunFor seen a b [] × (Reaches (arcs_after seen.table seen.log) b a → ⊥)
run-of_none seen a b top s =
    let arcs = arcs_after seen.table seen.log in
    let list = list_after seen.table seen.log in (
      record {
        turn = tt;
        members = λ v. (
          (λ m. absurd (false≢true m)),
          (λ r. absurd (elim (reaches-later arcs list top b v r.0) [
            | inl e ↦ never-itself a list (stands-on a b a list s (subst (λ (z : ℕ). StandsBefore z a list) (sym e) r.1))
            | inr l ↦ never-itself a list (stands-on a b a list s (stands-on b v a list l r.1))
          ])),
        );
      },
      none-back arcs list top a b s,
    )
