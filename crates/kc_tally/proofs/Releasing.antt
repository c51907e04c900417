-- One neighbour less for each vertex of a list that is on a level, and who joins the next layer then.
use Rattle.std.proofs.Common.{◌≡◌, ◌≢◌, ◌<◌, ◌+◌, ◌-◌, ℕ, Bool, true, false, cond, ◌&&◌, List, [], ◌∷◌, ◌++◌, length, get_or, set, take, eqb}
use Rattle.std.proofs.Common.{refl, sym, ◌∙◌, ap, subst, inl, inr, arith, length-set, append-nil, append_assoc, eq-eqb, ne_eqb}
use Rattle.std.specs.List.{filter}
use Rattle.std.proofs.lemmas.List.{take_more, get_or-set_same, get_or-set_other}
use Rattle.std.proofs.lemmas.Bool.{cases_eq, and_from, and_left, and_right, or_right}
use Rattle.kc_lists.specs.Lists.{Distinct, member}
use Rattle.kc_lists.proofs.Counting.{member-push, take-not_here, member-push_other, filter-push_yes, filter-push_no, one_if}
use Rattle.kc_graph.specs.Peeling.{at}
use Rattle.kc_tally.specs.Taking.{LetGo}

-- who joins the next layer: a vertex of the level that has one neighbour more left
abbrev pub joins : List ℕ → ℕ → List ℕ → ℕ → Bool
joins core level left w = eqb (at core w) level && eqb (at left w) (level + 1)

-- before the first of the list
pub released_none : (core : List ℕ) (level : ℕ) (left next : List ℕ) → LetGo core level [] left next left next
released_none core level left next = record {
  one_each = refl;
  lowered = λ u. omega arith;
  joined = sym (append-nil next);
}

module _ (core : List ℕ) (level : ℕ) (ws : List ℕ) (w : ℕ) (left next left' next' : List ℕ) (h : LetGo core level ws left next left' next')
    (same : at left w ≡ at left' w) where
  -- `w` is not on the level
  pub released_skip : at core w ≢ level → LetGo core level (ws ++ w ∷ []) left next left' next'
  released_skip off =
      let other : eqb (at core w) level ≡ false = ne_eqb (at core w) level off in
      record {
        one_each = h.one_each;
        lowered = λ u. elim (cases_eq u w) [
          | inl e ↦
              let z : member u (ws ++ w ∷ []) && eqb (at core u) level ≡ false = and_right _ _ (ap (λ x. eqb (at core x) level) e ∙ other) in
              omega (arith, ap one_if z, ap (at left) e, ap (at left') e, same)
          | inr ne ↦ h.lowered u ∙ ap (λ b. at left' u + cond (b && eqb (at core u) level) 1 0) (sym (member-push_other u w ws ne))
        ];
        joined = h.joined ∙ ap (λ (t : List ℕ). next ++ t) (sym (filter-push_no (joins core level left) w ws (and_left _ _ other)));
      }

  module _ (on : at core w ≡ level) (some : 0 < at left' w) (new' : member w ws ≡ false) (lw : w < length left') where
    -- what becomes of the numbers left, where `w` loses one
    less_one : (u : ℕ) → at left u ≡ at (set left' w (at left' w - 1)) u + cond (member u (ws ++ w ∷ []) && eqb (at core u) level) 1 0
    less_one u =
        let c : ℕ = at left' w - 1 in
        let less : List ℕ = set left' w c in
        elim (cases_eq u w) [
          | inl e ↦
              let t : member u (ws ++ w ∷ []) && eqb (at core u) level ≡ true =
              and_from _ _ (member-push u w ws ∙ or_right (member u ws) (eqb u w) (eq-eqb u w e)) (eq-eqb (at core u) level (ap (at core) e ∙ on)) in
              omega (arith, ap one_if t, get_or-set_same left' w c 0 lw, ap (at less) e, ap (at left) e, same, some)
          | inr ne ↦
              h.lowered u ∙ ap (λ b. at left' u + cond (b && eqb (at core u) level) 1 0) (sym (member-push_other u w ws ne))
              ∙ ap (λ (k : ℕ). k + cond (member u (ws ++ w ∷ []) && eqb (at core u) level) 1 0) (sym (get_or-set_other left' w u c 0 ne))
        ]

    -- `w` loses one, and joins the next layer
    pub released_joins : at left' w ≡ level + 1 → LetGo core level (ws ++ w ∷ []) left next (set left' w (at left' w - 1)) (next' ++ w ∷ [])
    released_joins ready = record {
      one_each = length-set left' w (at left' w - 1) ∙ h.one_each;
      lowered = less_one;
      joined =
          let yes : joins core level left w ≡ true = and_from _ _ (eq-eqb (at core w) level on) (eq-eqb (at left w) (level + 1) (same ∙ ready)) in
          ap (λ (t : List ℕ). t ++ w ∷ []) h.joined ∙ append_assoc next (filter (joins core level left) ws) (w ∷ [])
          ∙ ap (λ (t : List ℕ). next ++ t) (sym (filter-push_yes (joins core level left) w ws yes));
    }

    -- `w` loses one, and joins no layer
    pub released_stays : at left' w ≢ level + 1 → LetGo core level (ws ++ w ∷ []) left next (set left' w (at left' w - 1)) next'
    released_stays more = record {
      one_each = length-set left' w (at left' w - 1) ∙ h.one_each;
      lowered = less_one;
      joined =
          let no : joins core level left w ≡ false = and_right _ _ (ne_eqb (at left w) (level + 1) (λ e. more (sym same ∙ e))) in
          h.joined ∙ ap (λ (t : List ℕ). next ++ t) (sym (filter-push_no (joins core level left) w ws no));
    }

-- one more of the list
pub released_next : (core : List ℕ) (level : ℕ) (left next left' next' ws : List ℕ) (i : ℕ) → i < length ws
    → LetGo core level (take i ws ++ get_or ws i 0 ∷ []) left next left' next' → LetGo core level (take (i + 1) ws) left next left' next'
released_next core level left next left' next' ws i l h =
    subst (λ (t : List ℕ). LetGo core level t left next left' next') (sym (take_more ws i 0 l)) h

-- a vertex whose turn has not come has what it had
pub released_here : (core : List ℕ) (level : ℕ) (left next left' next' ws : List ℕ) (i : ℕ) → i < length ws → Distinct ws
    → LetGo core level (take i ws) left next left' next' → at left (get_or ws i 0) ≡ at left' (get_or ws i 0)
released_here core level left next left' next' ws i l d h =
    let w : ℕ = get_or ws i 0 in
    let z : member w (take i ws) && eqb (at core w) level ≡ false = and_left _ _ (take-not_here i ws l d) in
    omega (arith, h.lowered w, ap one_if z)
