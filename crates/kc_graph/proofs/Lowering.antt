-- One neighbour less for each of a list.
use Rattle.std.proofs.Common.{◌≡◌, ◌≤◌, ◌<◌, ◌+◌, ◌-◌, ℕ, Bool, true, false, cond, ◌&&◌, List, [], ◌∷◌, ◌++◌, length, get_or, set, take, eqb}
use Rattle.std.proofs.Common.{ltb, refl, sym, ◌∙◌, ap, subst, inl, inr, arith, length-set, length-append, append-nil, append_assoc, eq-eqb, ne_eqb}
use Rattle.std.proofs.Common.{lt-ltb, le-ltb, le_refl, sum}
use Rattle.std.specs.List.{filter}
use Rattle.std.proofs.lemmas.List.{take_more, get_or-set_same, get_or-set_other}
use Rattle.std.proofs.lemmas.List.Sums.{sum_by-set}
use Rattle.std.proofs.lemmas.Bool.{cases_eq, and_from, and_left, and_right, or_right}
use Rattle.kc_lists.specs.Lists.{Distinct, member}
use Rattle.kc_lists.proofs.Counting.{member-push, take-not_here, member-push_other, filter-push_yes, filter-push_no, one_if}
use Rattle.kc_graph.specs.Rows.{row}
use Rattle.kc_graph.specs.Peeling.{at, work, Lowered}
use Rattle.kc_graph.proofs.Buckets.{row-set_same, row-set_other}

-- where no vertex is to lose one, nothing changed
pub lowered_none : (level : ℕ) (core : List ℕ) (rows : List (List ℕ)) → Lowered level [] core rows core rows
lowered_none level core rows = record {
  one_each = refl;
  one_bucket = refl;
  lowered = λ u. omega arith;
  filed = λ b. sym (append-nil (row rows b));
  less_work = le_refl (work level core rows);
}

module _ (level w : ℕ) (ws core : List ℕ) (rows : List (List ℕ)) (core' : List ℕ) (rows' : List (List ℕ))
    (h : Lowered level ws core rows core' rows') (same : at core w ≡ at core' w) where
  -- a vertex that has no more than the level loses none
  pub lowered_skip : at core' w ≤ level → Lowered level (ws ++ w ∷ []) core rows core' rows'
  lowered_skip low =
      let not_above : ltb level (at core w) ≡ false = le-ltb level (at core w) (omega arith) in
      record {
        one_each = h.one_each;
        one_bucket = h.one_bucket;
        lowered = λ u. elim (cases_eq u w) [
          | inl e ↦
              let z : member u (ws ++ w ∷ []) && ltb level (at core u) ≡ false = and_right _ _ (ap (λ x. ltb level (at core x)) e ∙ not_above) in
              omega (arith, ap one_if z, ap (at core) e, ap (at core') e)
          | inr ne ↦ h.lowered u ∙ ap (λ b. at core' u + cond (b && ltb level (at core u)) 1 0) (sym (member-push_other u w ws ne))
        ];
        filed =
            λ b.
            h.filed b
            ∙ ap (λ (t : List ℕ). row rows b ++ t)
            (sym (filter-push_no (λ x. ltb level (at core x) && eqb (at core x) (b + 1)) w ws (and_left _ _ not_above)));
        less_work = h.less_work;
      }

  -- a vertex above the level loses one, and stands in the bucket of its new number too
  pub lowered_step : level < at core' w → member w ws ≡ false → w < length core' → at core' w ≤ length rows'
      → Lowered level (ws ++ w ∷ []) core rows (set core' w (at core' w - 1)) (set rows' (at core' w - 1) (row rows' (at core' w - 1) ++ w ∷ []))
  lowered_step up new' lw room =
      let c : ℕ = at core' w - 1 in
      let less : List ℕ = set core' w c in
      let more : List (List ℕ) = set rows' c (row rows' c ++ w ∷ []) in
      let at-w : at less w ≡ c = get_or-set_same core' w c 0 lw in
      let above : ltb level (at core w) ≡ true = lt-ltb level (at core w) (omega arith) in
      let in' : c < length rows' = omega arith in
      record {
        one_each = length-set core' w c ∙ h.one_each;
        one_bucket = length-set rows' c (row rows' c ++ w ∷ []) ∙ h.one_bucket;
        lowered = λ u. elim (cases_eq u w) [
          | inl e ↦
              let t : member u (ws ++ w ∷ []) && ltb level (at core u) ≡ true =
              and_from _ _ (member-push u w ws ∙ or_right (member u ws) (eqb u w) (eq-eqb u w e)) (ap (λ x. ltb level (at core x)) e ∙ above) in
              omega (arith, ap one_if t, at-w, ap (at less) e, ap (at core) e)
          | inr ne ↦
              h.lowered u ∙ ap (λ b. at core' u + cond (b && ltb level (at core u)) 1 0) (sym (member-push_other u w ws ne))
              ∙ ap (λ (k : ℕ). k + cond (member u (ws ++ w ∷ []) && ltb level (at core u)) 1 0) (sym (get_or-set_other core' w u c 0 ne))
        ];
        filed = λ b.
            let moved : ℕ → Bool = λ x. ltb level (at core x) && eqb (at core x) (b + 1) in
            elim (cases_eq b c) [
              | inl e ↦
                  let yes : moved w ≡ true = and_from _ _ above (eq-eqb (at core w) (b + 1) (omega arith)) in
                  ap (row more) e ∙ row-set_same rows' c (row rows' c ++ w ∷ []) in'
                  ∙ ap (λ j. row rows' j ++ w ∷ []) (sym e) ∙ ap (λ (t : List ℕ). t ++ w ∷ []) (h.filed b)
                  ∙ append_assoc (row rows b) (filter moved ws) (w ∷ []) ∙ ap (λ (t : List ℕ). row rows b ++ t) (sym (filter-push_yes moved w ws yes))
              | inr ne ↦
                  let no : moved w ≡ false = and_right _ _ (ne_eqb (at core w) (b + 1) (λ k. ne (omega arith))) in
                  row-set_other rows' c b (row rows' c ++ w ∷ []) ne ∙ h.filed b ∙ ap (λ (t : List ℕ). row rows b ++ t) (sym (filter-push_no moved w ws no))
            ];
        less_work =
            let s : sum less + at core' w ≡ sum core' + c = sum_by-set (λ x. x) core' w c 0 lw in
            let l : length (row more level) ≤ length (row rows' level) + 1 = elim (cases_eq level c) [
              | inl e ↦
                  let r : row more level ≡ row rows' level ++ w ∷ [] =
                  ap (row more) e ∙ row-set_same rows' c (row rows' c ++ w ∷ []) in' ∙ ap (λ j. row rows' j ++ w ∷ []) (sym e) in
                  omega (arith, ap length r, length-append (row rows' level) (w ∷ []))
              | inr ne ↦ omega (arith, ap length (row-set_other rows' c level (row rows' c ++ w ∷ []) ne))
            ] in
            omega (arith, s, l, h.less_work);
      }

-- one more of the row
pub lowered_next : (level : ℕ) (core : List ℕ) (rows : List (List ℕ)) (core' : List ℕ) (rows' : List (List ℕ)) (ws : List ℕ) (i : ℕ) → i < length ws
    → Lowered level (take i ws ++ get_or ws i 0 ∷ []) core rows core' rows' → Lowered level (take (i + 1) ws) core rows core' rows'
lowered_next level core rows core' rows' ws i l h = subst (λ (t : List ℕ). Lowered level t core rows core' rows') (sym (take_more ws i 0 l)) h

-- a vertex whose turn has not come has what it had
pub lowered_here : (level : ℕ) (core : List ℕ) (rows : List (List ℕ)) (core' : List ℕ) (rows' : List (List ℕ)) (ws : List ℕ) (i : ℕ)
    → i < length ws → Distinct ws
    → Lowered level (take i ws) core rows core' rows' → at core (get_or ws i 0) ≡ at core' (get_or ws i 0)
lowered_here level core rows core' rows' ws i l d h =
    let w : ℕ = get_or ws i 0 in
    let z : member w (take i ws) && ltb level (at core w) ≡ false = and_left _ _ (take-not_here i ws l d) in
    omega (arith, h.lowered w, ap one_if z)
