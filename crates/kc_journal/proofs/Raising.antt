-- How far the versions of words rise at an entry.
use Rattle.std.proofs.Common.{◌≡◌, ℕ, ◌+◌, ◌*◌, ◌≤◌, List, [], ◌∷◌, length, refl, sym, ap, ◌∙◌, subst, arith, length-append}
use Rattle.kc_graph.specs.declared.plan.Moves.{Moves}
use Rattle.kc_graph.specs.declared.plan.Moves.TheVariants.{Kept, Plain, Rise, Fall}
use Rattle.kc_graph.specs.declared.update.Update.{Update}
use Rattle.kc_cert.specs.Local.{firsts, moved_vertices}
use Rattle.kc_cert.proofs.Turns.{length-firsts}
use Rattle.kc_table.specs.Legal.{IsVersioned, version_of}
use Rattle.kc_table.specs.Log.{Seen, TableName, event, value_at}
use Rattle.kc_table.proofs.Steps.{value_at-other}
use Rattle.kc_order.specs.Writers.{IsHighest, PutsEach, Stores, with_store}
use Rattle.kc_levels.specs.Levels.{Levelled, seen}
use Rattle.kc_levels.specs.Makes.{SealsInTurn, backwards, puts_of}
use Rattle.kc_levels.proofs.Steps.{length-backwards}
use Rattle.kc_journal.specs.Entering.{HasSection}

-- In the same table no word of an item or a group has risen by more versions than this.
record RisesBy (old new : Seen) (most : ℕ) : Type 0 where
  table : new.table ≡ old.table
  each : (word : ℕ) → IsVersioned old.table.shape word
      → version_of (value_at new.table.opening new.log word) ≤ version_of (value_at old.table.opening old.log word) + most

-- where nothing is stored nothing rises
rises-none : (old new : Seen) → new ≡ old → RisesBy old new 0
rises-none old new is =
    subst (λ (s : Seen). RisesBy old s 0) (sym is) (record { table = refl; each = λ word versioned. omega arith })

-- what rises in two turns
rises-both : (old next new : Seen) (first second : ℕ) → RisesBy old next first → RisesBy next new second → RisesBy old new (first + second)
rises-both old next new first second a b = record {
  table = b.table ∙ a.table;
  each = λ word versioned.
      let there : IsVersioned next.table.shape word = subst (λ (t : TableName). IsVersioned t.shape word) (sym a.table) versioned in
      omega (arith, a.each word versioned, b.each word there);
}

-- the store of a word that has no version raises none
rises-store : (old new : Seen) (word value : ℕ) → Stores old new word value → (IsVersioned old.table.shape word → ⊥) → RisesBy old new 0
rises-store old new word value stores plain =
    subst (λ (s : Seen). RisesBy old s 0) (sym stores.is) (record {
      table = refl;
      each = λ other versioned.
          let same = value_at-other old.table.opening old.log (event word value) other
          (λ is. plain (subst (λ (w : ℕ). IsVersioned old.table.shape w) is versioned)) in
          omega (arith, ap version_of same);
    })

-- puts in turn raise two versions each at most
rises-puts : (old new : Seen) (puts : List (ℕ × ℕ)) → PutsEach old puts new → RisesBy old new (2 * length puts)
rises-puts old new [] is = rises-none old new is
rises-puts old new (put ∷ puts) (next, one, rest) =
    let first : RisesBy old next 2 = record { table = one.ends.table; each = one.raised } in
    let all = rises-both old next new 2 (2 * length puts) first (rises-puts next new puts rest) in
    let many : 2 + 2 * length puts ≡ 2 * length (put ∷ puts) = omega arith in
    subst (RisesBy old new) many all

-- seals in turn raise none
rises-seals : (stamp : ℕ) (core : List ℕ) (old new : Seen) (vs : List ℕ) → SealsInTurn stamp core old vs new → RisesBy old new 0
rises-seals stamp core old new [] is = rises-none old new is
rises-seals stamp core old new (v ∷ vs) (next, one, rest) =
    rises-both old next new 0 0 (rises-store old next _ _ one (λ h. omega (arith, h.1))) (rises-seals stamp core next new vs rest)

-- as many vertices are put as are moved
puts-many : (moves : Moves) → length (puts_of moves) ≡ length (moved_vertices moves)
puts-many Kept = refl
puts-many Plain = refl
puts-many (Rise level rise shifts) =
    omega (
      arith,
      length-append (firsts shifts.items) (backwards rise.items),
      length-append rise.items (firsts shifts.items),
      length-backwards rise.items,
    )
puts-many (Fall level fall) = refl

-- the section of moves raises two versions at most for each vertex that they move
rises-section : (old new : Levelled) (index : ℕ) (update : Update) (moves : Moves) → HasSection old new index update moves
    → RisesBy (seen old) (seen new) (2 * length (moved_vertices moves))
rises-section old new index update moves s =
    let puts = s.makes.puts_are in
    let count : length puts.puts ≡ length (moved_vertices moves) =
    sym (length-firsts puts.puts) ∙ (ap (λ (vs : List ℕ). length vs) puts.vertices ∙ puts-many moves) in
    let indexed : RisesBy (seen old) (with_store (seen old) 0 index) 0 =
    rises-store (seen old) (with_store (seen old) 0 index) 0 index s.opens.stores.indexed (λ h. omega (arith, h.0)) in
    let noted : RisesBy (with_store (seen old) 0 index) (seen s.begun) 0 =
    rises-store (with_store (seen old) 0 index) (seen s.begun) 0 _ s.opens.stores.noted (λ h. omega (arith, h.0)) in
    let begun : RisesBy (seen old) (seen s.begun) 0 = rises-both (seen old) (with_store (seen old) 0 index) (seen s.begun) 0 0 indexed noted in
    let put : RisesBy (seen s.begun) s.makes.between (2 * length puts.puts) = rises-puts (seen s.begun) s.makes.between puts.puts puts.run in
    let sealed : RisesBy s.makes.between (seen s.made) 0 = rises-seals _ _ s.makes.between (seen s.made) _ s.makes.seals_are in
    let all = rises-both (seen old) s.makes.between (seen s.made) _ 0
    (rises-both (seen old) (seen s.begun) s.makes.between 0 _ begun put) sealed in
    let many : 0 + 2 * length puts.puts + 0 ≡ 2 * length (moved_vertices moves) = omega (arith, count) in
    subst (λ (z : Seen). RisesBy (seen old) z (2 * length (moved_vertices moves))) (sym (ap seen s.ends))
    (subst (RisesBy (seen old) (seen s.made)) many all)

-- so does the greatest version
pub highest-raised : (old new : Levelled) (index : ℕ) (update : Update) (moves : Moves) → HasSection old new index update moves → (before after : ℕ)
    → IsHighest old.table old.log before → IsHighest new.table new.log after → after ≤ before + 2 * length (moved_vertices moves)
highest-raised old new index update moves s before after low high =
    let r = rises-section old new index update moves s in
    let here : IsVersioned old.table.shape high.word = subst (λ (t : TableName). IsVersioned t.shape high.word) r.table high.versioned in
    omega (arith, r.each high.word here, low.bound high.word here, high.reached)
