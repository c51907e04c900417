-- One neighbour less for each of a list, and who waits from then on.
use Rattle.std.proofs.Common.{◌≡◌, ◌≤◌, ◌<◌, ◌+◌, ◌-◌, ℕ, Bool, true, false, cond, ◌&&◌, List, [], ◌∷◌, ◌++◌, length, get_or, set, take, eqb}
use Rattle.std.proofs.Common.{ltb, refl, sym, ◌∙◌, ap, subst, inl, inr, arith, length-set, append-nil, append_assoc, eq-eqb, eqb-true, lt-ltb, le-ltb}
use Rattle.std.proofs.Common.{ne_eqb}
use Rattle.std.specs.List.{filter}
use Rattle.std.proofs.lemmas.List.{take_more, get_or-set_same, get_or-set_other}
use Rattle.std.proofs.lemmas.Bool.{cases_eq, and_from, and_parts, and_left, and_right, or_right, false_from_ne_true}
use Rattle.kc_lists.specs.Lists.{Distinct, member}
use Rattle.kc_lists.proofs.Counting.{member-push, take-not_here, member-push_other, filter-push_yes, filter-push_no, one_if}
use Rattle.kc_graph.specs.Rows.{row}
use Rattle.kc_graph.specs.Peeling.{at}
use Rattle.kc_graph.proofs.Buckets.{row-set_same, row-set_other}
use Rattle.kc_hindex.specs.Ordering.{Released}

-- who waits in row `b` from now on: a vertex of that core number that has one neighbour more left
abbrev pub joins : List ℕ → List ℕ → ℕ → ℕ → Bool
joins core left b w = eqb (at core w) b && eqb (at left w) (b + 1)

-- before the first of the list
pub released_none : (core left : List ℕ) (rows : List (List ℕ)) → Released core [] left rows left rows
released_none core left rows = record {
  one_each = refl;
  one_row = refl;
  lowered = λ u. omega arith;
  filed = λ b. sym (append-nil (row rows b));
}

module _ (core ws : List ℕ) (w : ℕ) (left : List ℕ) (rows : List (List ℕ)) (left' : List ℕ) (rows' : List (List ℕ))
    (h : Released core ws left rows left' rows') (same : at left w ≡ at left' w) where
  -- `w` has no more left than its core number
  pub released_skip : at left' w ≤ at core w → Released core (ws ++ w ∷ []) left rows left' rows'
  released_skip low =
      let not_above : ltb (at core w) (at left w) ≡ false = le-ltb (at core w) (at left w) (omega arith) in
      record {
        one_each = h.one_each;
        one_row = h.one_row;
        lowered = λ u. elim (cases_eq u w) [
          | inl e ↦
              let z : member u (ws ++ w ∷ []) && ltb (at core u) (at left u) ≡ false = and_right _ _ (ap (λ x. ltb (at core x) (at left x)) e ∙ not_above) in
              omega (arith, ap one_if z, ap (at left) e, ap (at left') e, same)
          | inr ne ↦ h.lowered u ∙ ap (λ b. at left' u + cond (b && ltb (at core u) (at left u)) 1 0) (sym (member-push_other u w ws ne))
        ];
        filed = λ b.
            let no : joins core left b w ≡ false = false_from_ne_true _ (λ t.
            let p = and_parts (eqb (at core w) b) (eqb (at left w) (b + 1)) t in
            absurd (omega (arith, eqb-true (at core w) b p.0, eqb-true (at left w) (b + 1) p.1, same, low))) in
            h.filed b ∙ ap (λ (t : List ℕ). row rows b ++ t) (sym (filter-push_no (joins core left b) w ws no));
      }

  -- what becomes of the numbers left, where `w` loses one
  less_one : (w < length left') → at core w < at left' w → member w ws ≡ false → (u : ℕ)
      → at left u ≡ at (set left' w (at left' w - 1)) u + cond (member u (ws ++ w ∷ []) && ltb (at core u) (at left u)) 1 0
  less_one lw up new' u =
      let c : ℕ = at left' w - 1 in
      let less : List ℕ = set left' w c in
      elim (cases_eq u w) [
        | inl e ↦
            let above : ltb (at core w) (at left w) ≡ true = lt-ltb (at core w) (at left w) (omega (arith, same)) in
            let t : member u (ws ++ w ∷ []) && ltb (at core u) (at left u) ≡ true =
            and_from _ _ (member-push u w ws ∙ or_right (member u ws) (eqb u w) (eq-eqb u w e)) (ap (λ x. ltb (at core x) (at left x)) e ∙ above) in
            omega (arith, ap one_if t, get_or-set_same left' w c 0 lw, ap (at less) e, ap (at left) e, same, up)
        | inr ne ↦
            h.lowered u ∙ ap (λ b. at left' u + cond (b && ltb (at core u) (at left u)) 1 0) (sym (member-push_other u w ws ne))
            ∙ ap (λ (k : ℕ). k + cond (member u (ws ++ w ∷ []) && ltb (at core u) (at left u)) 1 0) (sym (get_or-set_other left' w u c 0 ne))
      ]

  -- `w` loses one, and waits from now on
  pub released_ready : at left' w ≡ at core w + 1 → member w ws ≡ false → w < length left' → at core w < length rows'
      → Released core (ws ++ w ∷ []) left rows (set left' w (at left' w - 1)) (set rows' (at core w) (row rows' (at core w) ++ w ∷ []))
  released_ready ready new' lw room =
      let c : ℕ = at core w in
      let more : List (List ℕ) = set rows' c (row rows' c ++ w ∷ []) in
      record {
        one_each = length-set left' w (at left' w - 1) ∙ h.one_each;
        one_row = length-set rows' c (row rows' c ++ w ∷ []) ∙ h.one_row;
        lowered = less_one lw (omega (arith, ready)) new';
        filed = λ b. elim (cases_eq b c) [
          | inl e ↦
              let yes : joins core left b w ≡ true = and_from _ _ (eq-eqb (at core w) b (sym e)) (eq-eqb (at left w) (b + 1) (omega (arith, same, ready, e))) in
              ap (row more) e ∙ row-set_same rows' c (row rows' c ++ w ∷ []) room
              ∙ ap (λ j. row rows' j ++ w ∷ []) (sym e) ∙ ap (λ (t : List ℕ). t ++ w ∷ []) (h.filed b)
              ∙ append_assoc (row rows b) (filter (joins core left b) ws) (w ∷ [])
              ∙ ap (λ (t : List ℕ). row rows b ++ t) (sym (filter-push_yes (joins core left b) w ws yes))
          | inr ne ↦
              let no : joins core left b w ≡ false = and_left _ _ (ne_eqb (at core w) b (λ k. ne (sym k))) in
              row-set_other rows' c b (row rows' c ++ w ∷ []) ne ∙ h.filed b
              ∙ ap (λ (t : List ℕ). row rows b ++ t) (sym (filter-push_no (joins core left b) w ws no))
        ];
      }

  -- `w` loses one, and has still too many
  pub released_later : at core w + 1 < at left' w → member w ws ≡ false → w < length left'
      → Released core (ws ++ w ∷ []) left rows (set left' w (at left' w - 1)) rows'
  released_later up new' lw = record {
    one_each = length-set left' w (at left' w - 1) ∙ h.one_each;
    one_row = h.one_row;
    lowered = less_one lw (omega (arith, up)) new';
    filed = λ b.
        let no : joins core left b w ≡ false = false_from_ne_true _ (λ t.
        let p = and_parts (eqb (at core w) b) (eqb (at left w) (b + 1)) t in
        absurd (omega (arith, eqb-true (at core w) b p.0, eqb-true (at left w) (b + 1) p.1, same, up))) in
        h.filed b ∙ ap (λ (t : List ℕ). row rows b ++ t) (sym (filter-push_no (joins core left b) w ws no));
  }

-- one more of the list
pub released_next : (core left : List ℕ) (rows : List (List ℕ)) (left' : List ℕ) (rows' : List (List ℕ)) (ws : List ℕ) (i : ℕ) → i < length ws
    → Released core (take i ws ++ get_or ws i 0 ∷ []) left rows left' rows' → Released core (take (i + 1) ws) left rows left' rows'
released_next core left rows left' rows' ws i l h = subst (λ (t : List ℕ). Released core t left rows left' rows') (sym (take_more ws i 0 l)) h

-- a vertex whose turn has not come has what it had
pub released_here : (core left : List ℕ) (rows : List (List ℕ)) (left' : List ℕ) (rows' : List (List ℕ)) (ws : List ℕ) (i : ℕ) → i < length ws → Distinct ws
    → Released core (take i ws) left rows left' rows' → at left (get_or ws i 0) ≡ at left' (get_or ws i 0)
released_here core left rows left' rows' ws i l d h =
    let w : ℕ = get_or ws i 0 in
    let z : member w (take i ws) && ltb (at core w) (at left w) ≡ false = and_left _ _ (take-not_here i ws l d) in
    omega (arith, h.lowered w, ap one_if z)
