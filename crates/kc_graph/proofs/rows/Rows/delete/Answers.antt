-- The row gets shorter where it lies, and the others keep their numbers.
use Rattle.std.proofs.Common.{◌≡◌, ◌<◌, ◌++◌, ℕ, List, length, get_or, take, drop, set, ap, sym, ◌∙◌, subst, arith}
use Rattle.kc_graph.specs.declared.row.Row.{Row}
use Rattle.kc_graph.specs.Rows.{row, Deleted}
use Rattle.kc_graph.specs.Blocks.{LieFrom, IsShorter, entries_of, entries_of_each}
use Rattle.kc_graph.proofs.Lying.{lie-shortened, entries-shortened, row-in, lies-view, row-view}
use Rattle.kc_graph.proofs.Scattering.{list-written}
use Rattle.kc_graph.proofs.rows.Rows.delete.Goals as goal

-- The row at `v` is `old`, and then `new`; its own function was handed all of the block, which is `now` then.
module _ (block handed : List ℕ) (rows : List Row) (lists : List (List ℕ)) (v : ℕ) (old : Row) (value : handed ≡ block) (lie : LieFrom 0 block rows)
    (view : entries_of_each block rows ≡ lists) (v_in : v < length lists) (is : old ≡ get_or rows v old) (now : List ℕ) (new : Row) (len : ℕ)
    (shorter : IsShorter handed now old new) (n : len ≡ length now) where
  -- there is a row for each list
  row_in : v < length rows
  row_in = row-in block rows lists v view v_in

  -- the row is shorter in the block itself
  place : IsShorter block now old new
  place = subst (λ (t : List ℕ). IsShorter t now old new) value shorter

  -- the rows still lie one after the other
  lie-left : LieFrom 0 (take len (now ++ drop (length now) block)) (set rows v new)
  lie-left = subst (λ (t : List ℕ). LieFrom 0 t (set rows v new)) (sym (list-written now block len n))
      (lie-shortened block now rows v old new lie row_in is place)

  -- and have their numbers, but for the one that went
  view-left : (w : ℕ) → Deleted (entries_of handed old) (entries_of now new) w
      → (r : List ℕ) × (entries_of_each (take len (now ++ drop (length now) block)) (set rows v new) ≡ set lists v r) × Deleted (row lists v) r w
  view-left w gone =
      let was : row lists v ≡ entries_of handed old =
      row-view block rows lists v old view row_in is ∙ ap (λ (t : List ℕ). entries_of t old) (sym value) in (
        entries_of now new,
        ap (λ (t : List ℕ). entries_of_each t (set rows v new)) (list-written now block len n)
            ∙ entries-shortened block now rows v old new lie row_in is place ∙ ap (λ (t : List (List ℕ)). set t v (entries_of now new)) view,
        subst (λ (t : List ℕ). Deleted t (entries_of now new) w) (sym was) gone,
      )

pub delete-requires-clause-lies : goal.delete-requires-clause-lies
delete-requires-clause-lies c =
    lies-view _ _ c.self.inside.rows.items _ c.args.v _ c.deref_mut.ensures.value c.self.invariant c.self.view_is c.requires.v_in c.index_mut.ensures.value

pub invariant_of-self : goal.invariant_of-self
invariant_of-self c =
    lie-left _ _ c.self.inside.rows.items _ c.args.v _ c.deref_mut.ensures.value c.self.invariant c.self.view_is c.requires.v_in c.index_mut.ensures.value
    _ _ _ c.delete.ensures.place (omega (arith, ap length c.deref_mut.ensures.value))

pub returns : goal.returns
returns c =
    view-left _ _ c.self.inside.rows.items _ c.args.v _ c.deref_mut.ensures.value c.self.invariant c.self.view_is c.requires.v_in c.index_mut.ensures.value
    _ _ _ c.delete.ensures.place (omega (arith, ap length c.deref_mut.ensures.value)) _ c.delete.ensures.deleted
