-- A run of items that stand before another item, and moves to right after it.
use Rattle.std.specs.Prelude.{◌≡◌, ◌≤◌, ◌⊎◌, ◌↔◌, ◌==◌, if◌then◌else◌, ℕ, List, [], ◌∷◌, ◌++◌, true}
use mathlib.Core.List.{IsPrefix}
use Rattle.kc_lists.specs.Lists.{member, without}
use Rattle.kc_table.specs.declared.view.Event.{Event}
use Rattle.kc_table.specs.Log.{Seen}
use Rattle.kc_table.specs.Legal.{Legal}
use Rattle.kc_order.specs.Standing.{Between, StandsBefore, list_after}
use Rattle.kc_order.specs.Writers.{LeavesBeside, PutsEach, entries_after, unsealed_after, vertex_word_after}

-- the list without each of these
abbrev pub without_each : List ℕ → List ℕ → List ℕ
without_each [] list = list
without_each (x ∷ xs) list = without x (without_each xs list)

-- the list with all of these, in turn, right after the first `p`
abbrev pub all_after : List ℕ → ℕ → List ℕ → List ℕ
all_after run p [] = []
all_after run p (y ∷ ys) = if p == y then y ∷ (run ++ ys) else y ∷ all_after run p ys

-- the list where the run stands right after `p` and all others stand as they did
abbrev pub with_run_after : List ℕ → ℕ → List ℕ → List ℕ
with_run_after run p list = all_after run p (without_each run list)

-- each stands in the list before those that come later in the run
abbrev pub InListOrder : List ℕ → List ℕ → Type 0
InListOrder [] list = Unit {0}
InListOrder (x ∷ xs) list = ((y : ℕ) → member y xs ≡ true → StandsBefore x y list) × InListOrder xs list

-- The members of the run are in the list, in the run's order, so that none comes twice; each stands before p, and none is a vertex.
pub record IsRunBefore (fixed : ℕ) (run : List ℕ) (p : ℕ) (list : List ℕ) : Type 0 where
  pub turn : InListOrder run list
  pub before : (x : ℕ) → member x run ≡ true → StandsBefore x p list
  pub free : (x : ℕ) → member x run ≡ true → fixed ≤ x

-- the puts that move a run: the last member first, each to right after p
abbrev pub puts_of_run : List ℕ → ℕ → List (ℕ × ℕ)
puts_of_run [] p = []
puts_of_run (x ∷ xs) p = puts_of_run xs p ++ (x, p) ∷ []

-- any two items stand in a list as in the one or as in the other of two lists
abbrev pub StandsAsEither : List ℕ → List ℕ → List ℕ → Type 0
StandsAsEither one other list = (x y : ℕ) → (StandsBefore x y list ↔ StandsBefore x y one) ⊎ (StandsBefore x y list ↔ StandsBefore x y other)

-- What holds after a prefix of the log in the course of moves from one list to another: any two items stand as in the one or as in the
-- other, the list has the same items, and nothing was entered.
pub record IsUnderway (old new : Seen) (prefix : List Event) : Type 0 where
  pub stands : StandsAsEither (list_after old.table old.log) (list_after new.table new.log) (list_after old.table prefix)
  pub members : (x : ℕ) → member x (list_after old.table prefix) ≡ member x (list_after old.table old.log)
  pub entries : entries_after (record { table = old.table; log = prefix }) ≡ entries_after old

-- The run stands right after p now, and all others as they did; it got there by one put for each of its members.
pub record MovesRun (old new : Seen) (run : List ℕ) (p : ℕ) : Type 0 where
  pub table : new.table ≡ old.table
  pub longer : IsPrefix old.log new.log
  pub legal : Legal new.table.shape new.table.opening new.log
  pub puts : PutsEach old (puts_of_run run p) new
  pub list : list_after new.table new.log ≡ with_run_after run p (list_after old.table old.log)
  pub leaves : LeavesBeside new (entries_after old) (unsealed_after old) (vertex_word_after old)
  pub underway : (prefix : List Event) → Between old.log new.log prefix → IsUnderway old new prefix
