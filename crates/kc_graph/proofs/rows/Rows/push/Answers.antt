-- The new row lies where the block gets longer.
use Rattle.std.proofs.Common.{◌≡◌, ◌≤◌, ◌+◌, ◌++◌, ◌∷◌, [], ℕ, List, length, ap, ap₂, sym, ◌∙◌, subst, arith, length-append}
use Rattle.std.proofs.lemmas.List.{take_all}
use Rattle.kc_graph.specs.declared.row.Row.{Row}
use Rattle.kc_graph.specs.declared.row.Row.TheVariants.{Part}
use Rattle.kc_graph.specs.Blocks.{LieFrom, entries_of_each}
use Rattle.kc_graph.proofs.Lying.{lie-push, lie-resized, entries-push}
use Rattle.kc_graph.proofs.rows.Rows.push.Goals as goal

-- The block `xs` gets the list `ys` at its end, and the rows get a row from where the block ended to where it ends.
module _ (xs ys block : List ℕ) (rows rows' : List Row) (from to : ℕ) (longer : block ≡ xs ++ ys) (last : rows' ≡ rows ++ Part from to ∷ [])
    (from-is : from ≡ length xs) (to-is : to ≡ length block) (lie : LieFrom 0 xs rows) where
  -- the last row has the whole list
  at-end : rows' ≡ rows ++ Part (length xs) (length xs + length ys) ∷ []
  at-end = last ∙ ap₂ (λ f t. rows ++ Part f t ∷ []) from-is (to-is ∙ ap length longer ∙ length-append xs ys)

  -- the rows lie in the block, one after the other
  lie-more : LieFrom 0 block rows'
  lie-more = rw (longer, at-end) (lie-push 0 xs ys rows (length ys) (omega arith) (omega arith) lie)

  -- and the list stands behind the others
  view-more : (lists : List (List ℕ)) → entries_of_each xs rows ≡ lists → entries_of_each block rows' ≡ lists ++ ys ∷ []
  view-more lists view =
      ap₂ entries_of_each longer at-end ∙ entries-push 0 xs ys rows (length ys) lie
      ∙ ap₂ (λ (t : List (List ℕ)) (r : List ℕ). t ++ r ∷ []) view (take_all (length ys) ys (omega arith))

pub invariant_of-self-in_err-push : goal.invariant_of-self-in_err-push
invariant_of-self-in_err-push c =
    let xs : List ℕ = c.self.inside.block.items in
    let longer : length xs ≤ length c.extend_from_slice.new.self.items =
    omega (arith, ap length c.in_ok-extend_from_slice.ensures.items, length-append xs c.args.list.now) in
    subst (LieFrom 0 c.extend_from_slice.new.self.items) (sym c.in_err-push.ensures.items)
    (lie-resized 0 xs c.extend_from_slice.new.self.items c.self.inside.rows.items longer c.self.invariant)

pub invariant_of-self-2 : goal.invariant_of-self-2
invariant_of-self-2 c =
    lie-more _ _ _ c.self.inside.rows.items _ _ _ c.in_ok-extend_from_slice.ensures.items c.in_ok-push.ensures.items (omega arith) (omega arith)
    c.self.invariant

pub returns : goal.returns
returns c =
    view-more _ _ _ c.self.inside.rows.items _ _ _ c.in_ok-extend_from_slice.ensures.items c.in_ok-push.ensures.items (omega arith) (omega arith)
    c.self.invariant _ c.self.view_is
