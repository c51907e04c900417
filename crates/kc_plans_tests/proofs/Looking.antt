-- Looking up what was kept, and lists that grow.
use Rattle.std.proofs.Common.{◌≡◌, ◌≢◌, ◌≤◌, ◌<◌, ◌+◌, ℕ, zero, suc, true, false, cond, List, [], ◌∷◌, ◌++◌, length, get_or, take, refl, sym, ◌∙◌, ap}
use Rattle.std.proofs.Common.{subst, inl, inr, arith, eqb, eq-eqb, ne_eqb}
use Rattle.std.specs.Prelude.{Some, None, is_some}
use Rattle.std.proofs.lemmas.Bool.{cases_eq, false≢true}
use Rattle.std.proofs.lemmas.List.{get_or_append_left, get_or_push, length-append, take_more}
use Rattle.std.specs.Option.{unwrap_or}
use Rattle.kc_lists.proofs.Members.{member-cases, member-append, append-not_member, not_member-cons, below_bound}
use Rattle.kc_lists.proofs.Counting.{member-get_or}
use Rattle.kc_graph.proofs.RowsLemmas.{Distinct-from_increasing}
use Rattle.kc_graph.specs.declared.used.UsedEdges.{UsedEdges}
use Rattle.kc_graph.specs.declared.used.UsedPlace.{UsedPlace}
use Rattle.kc_view.specs.Answers.{list_in, core_in}
use Rattle.kc_view.specs.Lists.{IsListOf, AreLists}
use Rattle.kc_view.proofs.Marking.{list_in-push, core_in-push}
use Rattle.kc_view.proofs.Keeping.{kept-list}

-- the first answer for `w`
pub list_in-at : (w : ℕ) (xs : List UsedEdges) (i : ℕ) (e : UsedEdges) → i < length xs → e ≡ get_or xs i e → list_in w (take i xs) ≡ None
    → e.vertex ≡ w → list_in w xs ≡ Some e.neighbours
list_in-at w [] i e l is none here = absurd (omega arith)
list_in-at w (x ∷ xs) zero e l is none here =
    ap (λ b. cond b (Some x.neighbours) (list_in w xs)) (eq-eqb w x.vertex (sym here ∙ ap (λ (y : UsedEdges). y.vertex) is))
    ∙ ap (λ (y : UsedEdges). Some y.neighbours) (sym is)
list_in-at w (x ∷ xs) (suc i) e l is none here =
    elim (eqb w x.vertex) as (λ b. cond b (Some x.neighbours) (list_in w (take i xs)) ≡ None → cond b (Some x.neighbours) (list_in w xs) ≡ Some e.neighbours) [
      | true ↦ λ no_list. cc
      | false ↦ λ k. list_in-at w xs i e (omega arith) is k here
    ] none

-- and the first core number
pub core_in-at : (w : ℕ) (xs : List UsedPlace) (i : ℕ) (p : UsedPlace) → i < length xs → p ≡ get_or xs i p → core_in w (take i xs) ≡ None
    → p.vertex ≡ w → core_in w xs ≡ Some p.core
core_in-at w [] i p l is none here = absurd (omega arith)
core_in-at w (x ∷ xs) zero p l is none here =
    ap (λ b. cond b (Some x.core) (core_in w xs)) (eq-eqb w x.vertex (sym here ∙ ap (λ (y : UsedPlace). y.vertex) is))
    ∙ ap (λ (y : UsedPlace). Some y.core) (sym is)
core_in-at w (x ∷ xs) (suc i) p l is none here =
    elim (eqb w x.vertex) as (λ b. cond b (Some x.core) (core_in w (take i xs)) ≡ None → cond b (Some x.core) (core_in w xs) ≡ Some p.core) [
      | true ↦ λ no_core. cc
      | false ↦ λ k. core_in-at w xs i p (omega arith) is k here
    ] none

-- none yet, where one more is of another vertex
pub list_in-not_yet : (w : ℕ) (xs : List UsedEdges) (i : ℕ) (e : UsedEdges) → i < length xs → e ≡ get_or xs i e
    → list_in w (take i xs) ≡ None → e.vertex ≢ w → list_in w (take (i + 1) xs) ≡ None
list_in-not_yet w xs i e l is none other =
    let next : take (i + 1) xs ≡ take i xs ++ e ∷ [] = take_more xs i e l ∙ ap (λ (x : UsedEdges). take i xs ++ x ∷ []) (sym is) in
    ap (list_in w) next
    ∙
    (list_in-push w (take i xs) e (ap is_some none)
    ∙ ap (λ b. cond b (Some e.neighbours) None) (ne_eqb w e.vertex (λ same. other (sym same))))

-- and no core number yet
pub core_in-not_yet : (w : ℕ) (xs : List UsedPlace) (i : ℕ) (p : UsedPlace) → i < length xs → p ≡ get_or xs i p
    → core_in w (take i xs) ≡ None → p.vertex ≢ w → core_in w (take (i + 1) xs) ≡ None
core_in-not_yet w xs i p l is none other =
    let next : take (i + 1) xs ≡ take i xs ++ p ∷ [] = take_more xs i p l ∙ ap (λ (x : UsedPlace). take i xs ++ x ∷ []) (sym is) in
    ap (core_in w) next ∙ (core_in-push w (take i xs) p (ap is_some none) ∙ ap (λ b. cond b (Some p.core) None) (ne_eqb w p.vertex (λ same. other (sym same))))

-- a list of vertices below `n`, where there are more vertices
pub IsListOf-wider : (n w : ℕ) (ws : List ℕ) → IsListOf n w ws → IsListOf (n + 1) w ws
IsListOf-wider n w ws h = record { ascends = h.ascends; within = λ y m. omega (arith, h.within y m); others = h.others }

-- and with the new vertex on it
pub IsListOf-push : (n w : ℕ) (ws : List ℕ) → IsListOf n w ws → n ≢ w → IsListOf (n + 1) w (ws ++ n ∷ [])
IsListOf-push n w ws h other = record {
  ascends = λ k l. elim (cases_eq (k + 1) (length ws)) [
    | inl e ↦
        omega (
          arith,
          get_or_append_left ws (n ∷ []) 0 k (omega arith),
          get_or_push ws n 0 (k + 1) (sym e),
          h.within (get_or ws k 0) (member-get_or ws k 0 (omega arith)),
        )
    | inr ne ↦
        let room : k + 1 < length ws = omega (arith, l, length-append ws (n ∷ []), ne) in
        omega (arith, get_or_append_left ws (n ∷ []) 0 k (omega arith), get_or_append_left ws (n ∷ []) 0 (k + 1) room, h.ascends k room)
  ];
  within = λ y m. elim (member-append y ws (n ∷ []) m) [
    | inl k ↦ omega (arith, h.within y k)
    | inr k ↦ elim (member-cases y n [] k) [ inl e ↦ omega (arith, e) | inr out ↦ absurd (false≢true out) ]
  ];
  others = append-not_member w ws (n ∷ []) h.others (not_member-cons w n [] (λ e. other (sym e)) refl);
}

-- of no vertices there is the empty list
pub IsListOf-none : (w : ℕ) → IsListOf 0 w []
IsListOf-none w = record { ascends = λ k l. absurd (omega arith); within = λ y m. absurd (false≢true m); others = refl }

-- no list is longer than there are vertices
pub short_list : (n w : ℕ) (ws : List ℕ) → IsListOf n w ws → length ws ≤ n
short_list n w ws h = below_bound n ws (Distinct-from_increasing ws h.ascends) h.within

-- a list that is found is one of those that were kept
pub found-list : (n w : ℕ) (xs : List UsedEdges) (ws : List ℕ) → AreLists n xs → list_in w xs ≡ Some ws → IsListOf n w ws
found-list n w xs ws all is =
    subst (IsListOf n w) (ap (λ o. unwrap_or o []) is) (kept-list n w (record { edges = xs; places = []; orders = [] }) all (ap is_some is))
