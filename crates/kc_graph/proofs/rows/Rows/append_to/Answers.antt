-- One row more is a list behind the others.
use Rattle.std.proofs.Common.{◌≡◌, ◌+◌, ◌++◌, ◌∷◌, [], ℕ, List, length, refl, sym, ap, ap₂, subst, ◌∙◌, append_assoc, append-nil, arith}
use Rattle.std.specs.Prelude.{All}
use Rattle.std.specs.Arc.{arc_slice_items}
use Rattle.std.specs.Vec.Iter.{into_iter_items, into_iter_len}
use Rattle.std.proofs.lemmas.List.Elements.{All-head, All-tail}
use Rattle.kc_graph.specs.declared.row.Row.{Row}
use Rattle.kc_graph.specs.Blocks.{LiesIn, LieFrom, entries_of, entries_of_each}
use Rattle.kc_graph.proofs.Lying.{all-lie, entries-more}
use Rattle.kc_graph.proofs.rows.Rows.append_to.Goals as goal

pub loop-row-init : goal.loop-row-init
loop-row-init c =
    let block : List ℕ = arc_slice_items c.in_ok-block.block in
    let first : into_iter_items c.into_iter-row-iterator.result ≡ c.self.inside.rows.items = c.into_iter-row-iterator.ensures.into_iter_gives.0 in (
      sym (append-nil c.args.lists.now.items),
      subst (All (LiesIn block)) (sym first) (all-lie 0 block c.self.inside.rows.items
          (subst (λ (t : List ℕ). LieFrom 0 t c.self.inside.rows.items) (sym c.in_ok-block.ensures) c.self.invariant)),
      refl,
      omega (arith, c.into_iter-row-iterator.ensures.into_iter_gives.1, ap length first),
    )

pub into_list-requires : goal.into_list-requires
into_list-requires c =
    let block : List ℕ = arc_slice_items c.in_ok-block.block in
    All-head (LiesIn block) c.in-Some.row (into_iter_items c.next.new.self) (subst (All (LiesIn block)) c.in-Some.ensures.steps.0 c.loop-row.invariant.1)

pub loop-row-preserved : goal.loop-row-preserved
loop-row-preserved c =
    let block : List ℕ = arc_slice_items c.in_ok-block.block in
    let row : Row = c.in-Some.row in
    let rest : List Row = into_iter_items c.next.new.self in
    let steps : into_iter_items c.loop-row.row-iterator ≡ row ∷ rest = c.in-Some.ensures.steps.0 in (
      c.in_ok-push.ensures.items ∙ ap₂ (λ (t : List (List ℕ)) (r : List ℕ). t ++ r ∷ []) c.loop-row.invariant.0 c.in_ok-into_list.ensures
          ∙ append_assoc c.args.lists.now.items (entries_of_each block c.loop-row.yielded) (entries_of block row ∷ [])
          ∙ ap (λ (t : List (List ℕ)). c.args.lists.now.items ++ t) (sym (entries-more block c.loop-row.yielded row)),
      All-tail (LiesIn block) row rest (subst (All (LiesIn block)) steps c.loop-row.invariant.1),
      append_assoc c.loop-row.yielded (row ∷ []) rest ∙ ap (λ (t : List Row). c.loop-row.yielded ++ t) (sym steps) ∙ c.loop-row.invariant.2,
      let gone : into_iter_len c.next.new.self + 1 ≡ into_iter_len c.loop-row.row-iterator = c.in-Some.ensures.steps.1 in
          omega (arith, gone, c.loop-row.invariant.3, ap length steps),
    )

-- no rows are left where their number is 0
nothing_left : (rows : List Row) → length rows ≡ 0 → rows ≡ []
nothing_left [] h = refl
nothing_left (x ∷ rows) h = absurd (omega arith)

pub returns : goal.returns
returns c =
    let block : List ℕ = arc_slice_items c.in_ok-block.block in
    let rows : List Row = c.self.inside.rows.items in
    let none = c.in-None.ensures.steps in
    let empty : into_iter_items c.loop-row.row-iterator ≡ [] = nothing_left _ (sym c.loop-row.invariant.3 ∙ none.0) in
    let all : c.loop-row.yielded ≡ rows =
    sym (append-nil c.loop-row.yielded) ∙ ap (λ (t : List Row). c.loop-row.yielded ++ t) (sym empty) ∙ c.loop-row.invariant.2
    ∙ c.into_iter-row-iterator.ensures.into_iter_gives.0 in
    c.loop-row.invariant.0
    ∙ ap (λ (t : List (List ℕ)). c.args.lists.now.items ++ t) (ap₂ entries_of_each c.in_ok-block.ensures all ∙ c.self.view_is)
