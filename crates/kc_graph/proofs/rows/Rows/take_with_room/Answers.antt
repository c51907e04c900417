-- The row lies where it lay or in no block, and only its numbers change.
use Rattle.std.proofs.Common.{◌≡◌, ◌<◌, ℕ, [], List, length, get_or, set, ap, sym, ◌∙◌, arith}
use Rattle.std.proofs.lemmas.Result.{on_ok_weaker}
use Rattle.kc_graph.specs.declared.row.Row.{Row}
use Rattle.kc_graph.specs.Blocks.{LieFrom, IsOwnOrSame, entries_of, entries_of_each}
use Rattle.kc_graph.proofs.Buckets.{set-row}
use Rattle.kc_graph.proofs.Inserting.{on_err_weaker}
use Rattle.kc_graph.proofs.Lying.{lie-kept, entries-set, row-in, lies-view, row-view}
use Rattle.kc_graph.proofs.rows.Rows.take_with_room.Goals as goal

-- The row at `v` is `old`, and its own function was handed all of the block.
module _ (block handed : List ℕ) (rows : List Row) (lists : List (List ℕ)) (v : ℕ) (old : Row) (value : handed ≡ block) (lie : LieFrom 0 block rows)
    (view : entries_of_each block rows ≡ lists) (v_in : v < length lists) (is : old ≡ get_or rows v old) where
  -- there is a row for each list
  row_in : v < length rows
  row_in = row-in block rows lists v view v_in

  -- with another row in its place the rows still lie one after the other
  lie-still : (new : Row) → IsOwnOrSame old new → LieFrom 0 block (set rows v new)
  lie-still new place = lie-kept block rows v old new lie row_in is place

  -- only its numbers change
  view-put : (new : Row) (list : List ℕ) → entries_of handed new ≡ list → entries_of_each block (set rows v new) ≡ set lists v list
  view-put new list e =
      entries-set block rows v new ∙ ap (λ (t : List (List ℕ)). set t v (entries_of block new)) view
      ∙ ap (set lists v) (ap (λ (t : List ℕ). entries_of t new) (sym value) ∙ e)

  -- and none does where they are the same
  view-same : (new : Row) → entries_of handed new ≡ entries_of handed old → entries_of_each block (set rows v new) ≡ lists
  view-same new e =
      view-put new (entries_of handed old) e
      ∙ ap (set lists v) (ap (λ (t : List ℕ). entries_of t old) value ∙ sym (row-view block rows lists v old view row_in is)) ∙ set-row lists v

pub take_with_room-requires : goal.take_with_room-requires
take_with_room-requires c =
    lies-view _ _ c.self.inside.rows.items _ c.args.v _ c.deref.ensures.value c.self.invariant c.self.view_is (omega arith) c.index_mut.ensures.value

pub invariant_of-self : goal.invariant_of-self
invariant_of-self c =
    lie-still _ _ c.self.inside.rows.items _ c.args.v _ c.deref.ensures.value c.self.invariant c.self.view_is (omega arith) c.index_mut.ensures.value _
    c.take_with_room.ensures.place

pub returns-clause-left : goal.returns-clause-left
returns-clause-left c =
    on_ok_weaker c.take_with_room.result
    (view-put _ _ c.self.inside.rows.items _ c.args.v _ c.deref.ensures.value c.self.invariant c.self.view_is (omega arith) c.index_mut.ensures.value
    c.take_with_room.new.self [])
    c.take_with_room.ensures.ok

pub returns-clause-err : goal.returns-clause-err
returns-clause-err c =
    on_err_weaker c.take_with_room.result
    (view-same _ _ c.self.inside.rows.items _ c.args.v _ c.deref.ensures.value c.self.invariant c.self.view_is (omega arith) c.index_mut.ensures.value
    c.take_with_room.new.self)
    c.take_with_room.ensures.err
