-- The part behind the rows so far is put in order, and its different numbers are one row more.
use Rattle.std.proofs.Common.{◌≡◌, ◌≤◌, ◌+◌, ◌-◌, ◌∷◌, ◌++◌, [], ℕ, List, length, get_or, take, ap, ap₂, sym, ◌∙◌, subst, arith, inl, inr, length-append}
use Rattle.std.specs.List.{between}
use Rattle.std.specs.List.Sorted.{IsStrictlyIncreasing}
use Rattle.std.proofs.lemmas.Bool.{cases_eq, cases_lt}
use Rattle.std.proofs.lemmas.Slice.{drop-put_mid}
use Rattle.std.proofs.lemmas.List.Edits.{length-between}
use borrow.Rule.Slice.PartMut.{put_mid}
use Rattle.kc_lists.specs.Lists.{member}
use Rattle.kc_graph.specs.declared.row.Row.{Row}
use Rattle.kc_graph.specs.declared.row.Row.TheVariants.{Part}
use Rattle.kc_graph.specs.Rows.{row}
use Rattle.kc_graph.specs.Blocks.{LieFrom, entries_of_each, first_of}
use Rattle.kc_graph.proofs.Buckets.{row_past}
use Rattle.kc_graph.proofs.Lying.{length-put_mid, length-entries, row-push_at, row-push_below, tidied-lie, tidied-entries, entries-front, lie-front}
use Rattle.kc_graph.proofs.Lying.{drop-later, first_is}
use Rattle.kc_graph.proofs.tidying.rows_in.Goals as goal

pub loop-end-preserved : goal.loop-end-preserved
loop-end-preserved c =
    let i : ℕ = c.loop-end.end-index in
    let ends : List ℕ = c.args.ends.now in
    let old : List ℕ = c.args.block.now in
    let block : List ℕ = c.loop-end.block in
    let rows : List Row = c.loop-end.rows.items in
    let from : ℕ = c.loop-end.from in
    let to : ℕ = get_or ends i 0 in
    let part : List ℕ = c.put_in_order-kept.new.part in
    let kept : ℕ = c.put_in_order-kept.result in
    let inv = c.loop-end.invariant in
    let o : from ≤ to = omega (arith, inv.2, c.requires.ordered i c.loop-end-test.true) in
    let l : to ≤ length block = omega (arith, inv.0, c.requires.within i c.loop-end-test.true) in
    let n : length part ≡ to - from = omega (arith, c.put_in_order-kept.ensures.len, length-between block from to l) in
    let few : kept ≤ length part = c.put_in_order-kept.ensures.within in
    let block' : List ℕ = put_mid from (to - from) block part in
    let lists : List (List ℕ) = entries_of_each (take from block) rows in
    let count : length lists ≡ i = length-entries (take from block) rows ∙ inv.1 in
    let more : c.push.new.self.items ≡ rows ++ Part from (from + kept) ∷ [] = c.in_ok-push.ensures.items in
    let here : entries_of_each (take to block') c.push.new.self.items ≡ lists ++ take kept part ∷ [] =
    ap (entries_of_each (take to block')) more ∙ tidied-entries block part rows from to kept o l n few inv.5 in
    let size : length block' ≡ length block = length-put_mid from (to - from) block part (omega arith) n in (
      omega (arith, size, inv.0),
      omega (arith, ap length more, length-append rows (Part from (from + kept) ∷ []), inv.1),
      first_is ends i,
      omega (arith, size),
      drop-put_mid from (to - from) block part to (omega arith) (omega arith) n ∙ drop-later block old from to o inv.4,
      subst (LieFrom 0 (take to block')) (sym more) (tidied-lie block part rows from to kept o l n few inv.5),
      λ v. subst (λ (t : List (List ℕ)). IsStrictlyIncreasing (row t v)) (sym here) (elim (cases_lt v i) [
        | inl below ↦ subst IsStrictlyIncreasing (sym (row-push_below lists (take kept part) v (omega (arith, count)))) (inv.6 v)
        | inr past ↦ elim (cases_eq v i) [
          | inl e ↦ subst IsStrictlyIncreasing (sym (row-push_at lists (take kept part) v (omega (arith, count)))) c.put_in_order-kept.ensures.ascends
          | inr ne ↦
              subst IsStrictlyIncreasing (sym (row_past (lists ++ take kept part ∷ []) v (omega (arith, count, length-append lists (take kept part ∷ [])))))
              (λ k lt. absurd (omega arith))
        ]
      ]),
      λ v w lv. ap (λ (t : List (List ℕ)). member w (row t v)) here ∙ elim (cases_eq v i) [
        | inl e ↦
            let start : from ≡ first_of ends v = inv.2 ∙ ap (first_of ends) (sym e) in
            let end : to ≡ get_or ends v 0 = ap (λ (k : ℕ). get_or ends k 0) (sym e) in
            ap (member w) (row-push_at lists (take kept part) v (omega (arith, count))) ∙ c.put_in_order-kept.ensures.same w
            ∙ ap (λ (t : List ℕ). member w (take (to - from) t)) inv.4
            ∙ ap₂ (λ (a b : ℕ). member w (between a b old)) start end
        | inr ne ↦ ap (member w) (row-push_below lists (take kept part) v (omega (arith, count))) ∙ inv.7 v w (omega arith)
      ],
    )

pub returns-clause-lie : goal.returns-clause-lie
returns-clause-lie c = lie-front c.loop-end.from c.loop-end.block c.loop-end.rows.items c.loop-end.invariant.3 c.loop-end.invariant.5

pub returns-clause-ascend : goal.returns-clause-ascend
returns-clause-ascend c v =
    subst (λ (t : List (List ℕ)). IsStrictlyIncreasing (row t v))
    (sym (entries-front c.loop-end.from c.loop-end.block c.loop-end.rows.items c.loop-end.invariant.5))
    (c.loop-end.invariant.6 v)

pub returns-clause-same : goal.returns-clause-same
returns-clause-same c v w l =
    ap (λ (t : List (List ℕ)). member w (row t v)) (entries-front c.loop-end.from c.loop-end.block c.loop-end.rows.items c.loop-end.invariant.5)
    ∙ c.loop-end.invariant.7 v w (omega (arith, c.loop-end-test.false, l))
