-- The next neighbour counts if it is higher than `w` or behind it on the level, and is listed, for the first time, if it is behind.
use Rattle.std.proofs.Common.{◌≡◌, ◌≤◌, ◌<◌, ◌+◌, ◌||◌, ◌&&◌, ℕ, Bool, false, cond, List, [], ◌∷◌, ◌++◌, length, take, get_or, eqb, refl, sym, ◌∙◌}
use Rattle.std.proofs.Common.{ap, inl, inr, arith, true≢false, eqb-true, eq-eqb}
use Rattle.std.specs.Prelude.{count_by}
use Rattle.std.proofs.lemmas.Bool.{or_cases, or_right, and_parts, false_from_ne_true}
use Rattle.std.proofs.lemmas.List.{take_all, take_more}
use Rattle.kc_lists.specs.Lists.{member}
use Rattle.kc_lists.proofs.Counting.{member-get_or, member-push, member-push_left, take-not_here}
use Rattle.kc_lists.proofs.Shared.{Distinct-grown}
use Rattle.kc_graph.proofs.RowsLemmas.{Distinct-from_increasing}
use Rattle.kc_view.specs.Answers.{has_core}
use Rattle.kc_view.proofs.Keeping.{GoesOn-trans, answers-agreed, still_has_core, still_has_list, same_list}
use Rattle.kc_insert.specs.Added.{search_with}
use Rattle.kc_graph.specs.Plans.{joins}
use Rattle.kc_insert.specs.Turns.{side_in, is_ahead, is_next}
use Rattle.kc_insert.proofs.Looking.{member-more, next-more, counted-more}
use Rattle.kc_insert.proofs.ahead.Ahead.look_from.Goals as goal

-- a place more holds at most one vertex more that stands ahead
few_more : (n' n i : ℕ) (b : Bool) → n ≤ i → n' ≡ n + cond b 1 0 → n' ≤ i + 1
few_more n' n i b le e = grind (arith, le, e)

pub side_of-requires-clause-vertex : goal.side_of-requires-clause-vertex
side_of-requires-clause-vertex g c =
    let row : List ℕ = c.args.row.now in
    let l : get_or row c.loop-x.x-index 0 < (g.V.View.shown c.args.view.now).size =
    c.requires.row.within (get_or row c.loop-x.x-index 0) (member-get_or row c.loop-x.x-index 0 c.loop-x-test.true) in
    omega (arith, l, c.loop-x.invariant.goes_on.lasts.same_size)

pub side_of-requires-clause-placed : goal.side_of-requires-clause-placed
side_of-requires-clause-placed g c = still_has_core _ _ c.args.w c.loop-x.invariant.goes_on.further c.requires.placed

pub side_of-requires-clause-read : goal.side_of-requires-clause-read
side_of-requires-clause-read g c = still_has_list _ _ c.args.w c.loop-x.invariant.goes_on.further c.requires.read

pub side_of-requires-clause-neighbour : goal.side_of-requires-clause-neighbour
side_of-requires-clause-neighbour g c =
    let row : List ℕ = c.args.row.now in
    let x : ℕ = get_or row c.loop-x.x-index 0 in
    ap (λ xs. member x xs || joins c.args.search.update c.args.w x) (same_list _ _ c.args.w c.loop-x.invariant.goes_on.further c.requires.read)
    ∙ (sym (c.requires.has x) ∙ member-get_or row c.loop-x.x-index 0 c.loop-x-test.true)

pub loop-x-preserved : goal.loop-x-preserved
loop-x-preserved g c =
    let i = c.loop-x.invariant in
    let e = c.side_of.ensures.goes_on in
    let row : List ℕ = c.args.row.now in
    let n : ℕ = c.loop-x.x-index in
    let x : ℕ = get_or row n 0 in
    let l : n < length row = c.loop-x-test.true in
    let side = c.in_ok-side.side in
    let next : List ℕ = c.loop-x.self.next.items in
    let more : c.add.new.self.next.items ≡ cond (is_next side) (next ++ x ∷ []) next = c.in_ok-add.ensures.next in
    let late : member x (take n row) ≡ false = take-not_here n row l (Distinct-from_increasing row c.requires.row.ascends) in
    let out : member x next ≡ false = false_from_ne_true _ (λ m. true≢false (sym (i.from x m).0 ∙ late)) in
    let seam : take (n + 1) row ≡ take n row ++ x ∷ [] = take_more row n 0 l in
    record {
      goes_on = GoesOn-trans _ _ _ i.goes_on e;
      few = few_more c.add.new.self.count c.loop-x.self.count n (is_ahead side) i.few c.in_ok-add.ensures.count;
      asks = λ queue asks. c.in_ok-side.ensures.asks queue (i.asks queue asks);
      from = λ y m. elim (or_cases (member y next) (eqb y x && is_next side) (sym (member-more (is_next side) x y next _ more) ∙ m)) [
        | inl k ↦ let f = i.from y k in (ap (member y) seam ∙ member-push_left y x (take n row) f.0, still_has_core _ _ y e.further f.1)
        | inr k ↦
            let at : y ≡ x = eqb-true y x (and_parts (eqb y x) (is_next side) k).0 in (
              ap (member y) seam ∙ (member-push y x (take n row) ∙ or_right (member y (take n row)) (eqb y x) (eq-eqb y x at)),
              ap (has_core (g.V.View.shown c.side_of.new.view).kept) at ∙ c.in_ok-side.ensures.placed,
            )
      ];
      once = Distinct-grown (is_next side) x next _ more i.once out;
      count = λ s a.
          let told = c.in_ok-side.ensures.told s a in
          counted-more (search_with c.args.search.update c.args.search.level s) c.args.w x n c.loop-x.self.count c.add.new.self.count row side l refl
          told c.in_ok-add.ensures.count (i.count s (answers-agreed _ _ s e.further a));
      next = λ s a y.
          let told = c.in_ok-side.ensures.told s a in
          next-more (search_with c.args.search.update c.args.search.level s) c.args.w x y n row next _ side l refl told more
          (i.next s (answers-agreed _ _ s e.further a) y);
    }

pub returns-clause-count : goal.returns-clause-count
returns-clause-count g c = λ s a.
    let row : List ℕ = c.args.row.now in
    let p : ℕ → Bool = λ y. is_ahead (side_in (search_with c.args.search.update c.args.search.level s) c.args.w y) in
    c.loop-x.invariant.count s a ∙ ap (count_by p) (take_all c.loop-x.x-index row (omega (arith, c.loop-x-test.false)))
