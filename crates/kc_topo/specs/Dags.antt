-- What contracts see of an acyclic graph whose arcs a table's log has entered, and what adding an arc does.
use Rattle.std.specs.Prelude.{◌≡◌, ◌<◌, ◌≤◌, ◌+◌, ◌*◌, ◌++◌, ◌↔◌, ℕ, List, [], ◌∷◌, true, false, length}
use mathlib.Core.List.{IsPrefix}
use Rattle.kc_lists.specs.Lists.{member}
use Rattle.kc_graph.specs.Rows.{row}
use Rattle.kc_words.specs.NoteWord.{note_word}
use Rattle.kc_words.specs.declared.layout.TheConstants.{LAST_VERSION, VERTICES}
use Rattle.kc_table.specs.declared.view.Event.{Event}
use Rattle.kc_table.specs.Legal.{Legal}
use Rattle.kc_table.specs.Log.{PassSeen, Seen, TableName}
use Rattle.kc_order.specs.Runs.{InListOrder, MovesRun, with_run_after}
use Rattle.kc_order.specs.Standing.{Between, StandsBefore, list_after}
use Rattle.kc_order.specs.Writers.{HasRoom, IsHighest, StoresEntry, entries_after, unsealed_after}
use Rattle.kc_order.specs.declared.answer.Answer.{Answer}
use Rattle.kc_order.specs.declared.answer.Answer.TheVariants as answer
use Rattle.kc_topo.specs.declared.added.Added.{Added}
use Rattle.kc_topo.specs.declared.added.Added.TheVariants as added
use Rattle.kc_topo.specs.declared.fault.DagFault.{DagFault}
use Rattle.kc_topo.specs.declared.fault.DagFault.TheVariants as fault
use Rattle.kc_topo.specs.Arcs.{IsTopological, IsWalk, Reaches, StandOnce, arcs_after, ascending, entry_of, has_arc, note_of_arc}

-- After the log each vertex is in the list, no arc stands twice, and the list is topological for the arcs: so they have no cycle.
pub record IsDag (table : TableName) (log : List Event) : Type 0 where
  pub vertices : (v : ℕ) → v < table.shape.items → member v (list_after table log) ≡ true
  pub once : StandOnce (arcs_after table log)
  pub topological : IsTopological (arcs_after table log) (list_after table log)

-- so it is after each prefix of the log
abbrev pub IsDagAlong : TableName → List Event → Type 0
IsDagAlong table log = (prefix : List Event) → IsPrefix prefix log → IsDag table prefix

-- The run that moves for an arc from a to b: the vertices that walks reach from b and that stand before a, in the list's order.
pub record IsRunFor (seen : Seen) (a b : ℕ) (run : List ℕ) : Type 0 where
  pub turn : InListOrder run (list_after seen.table seen.log)
  pub members : (v : ℕ) → (member v run ≡ true) ↔ (Reaches (arcs_after seen.table seen.log) b v × StandsBefore v a (list_after seen.table seen.log))

-- The arc from a to b was added: the run for it has moved to right after a, and then the arc was entered by the last two stores.
pub record AddsArc (old new : Seen) (a b : ℕ) : Type 0 where
  pub fresh : has_arc (arcs_after old.table old.log) a b ≡ false
  pub acyclic : Reaches (arcs_after old.table old.log) b a → ⊥
  pub run : List ℕ
  pub run_is : IsRunFor old a b run
  pub room : HasRoom old.table old.log (3 * length run)
  pub moved : Seen
  pub moves : MovesRun old moved run a
  pub stores : StoresEntry moved new 0 (note_word (note_of_arc a b))
  pub entries : entries_after new ≡ entries_after old ++ entry_of a b ∷ []
  pub arcs : arcs_after new.table new.log ≡ arcs_after old.table old.log ++ (a, b) ∷ []
  pub list : list_after new.table new.log ≡ with_run_after run a (list_after old.table old.log)

-- What adding an arc answers where it is not refused: it stood already, and nothing changed; or it was added.
abbrev pub IsAdded : Seen → Seen → ℕ → ℕ → Added → Type 0
IsAdded old new a b added.There = (has_arc (arcs_after old.table old.log) a b ≡ true) × (new ≡ old)
IsAdded old new a b added.New = AddsArc old new a b

-- Why an arc that does not stand yet is not added: a walk leads back, which is named; or there is none, and the versions of the words do not
-- leave three for each vertex that would move; or there was no memory. That an arc stands is answered without memory.
abbrev pub IsRefused : Seen → ℕ → ℕ → DagFault → Type 0
IsRefused seen a b (fault.Cycle walk) =
    (has_arc (arcs_after seen.table seen.log) a b ≡ false) × IsWalk (arcs_after seen.table seen.log) b a walk.items × (a ≡ b → walk.items ≡ a ∷ [])
IsRefused seen a b (fault.Spent highest needed) =
    (has_arc (arcs_after seen.table seen.log) a b ≡ false) × (Reaches (arcs_after seen.table seen.log) b a → ⊥)
    × IsHighest seen.table seen.log highest × ((run : List ℕ) × IsRunFor seen a b run × (needed ≡ 3 * length run)) × (LAST_VERSION < highest + needed)
IsRefused seen a b fault.NoMemory = has_arc (arcs_after seen.table seen.log) a b ≡ false

-- the log goes on from what had been seen, and then the arc was added, which had not been seen
pub record AddsArcSince (table : TableName) (old new : List Event) (a b : ℕ) : Type 0 where
  pub before : List Event
  pub longer : IsPrefix old before
  pub unseen : has_arc (arcs_after table old) a b ≡ false
  pub adds : AddsArc (record { table = table; log = before }) (record { table = table; log = new }) a b

-- what adding an arc answers a caller that had seen a prefix of the log: the arc stands now, or it was added
abbrev pub IsAddedSince : TableName → List Event → List Event → ℕ → ℕ → Added → Type 0
IsAddedSince table old new a b added.There = has_arc (arcs_after table new) a b ≡ true
IsAddedSince table old new a b added.New = AddsArcSince table old new a b

-- x stood before y after a prefix of the log, after which the list was topological for the arcs that were entered until then
pub record StoodInDag (table : TableName) (old new : List Event) (x y : ℕ) : Type 0 where
  pub prefix : List Event
  pub between : Between old new prefix
  pub stood : StandsBefore x y (list_after table prefix)
  pub dag : IsDag table prefix

-- What a comparison tells of a graph: a sure answer is how two vertices stood in such a list, and no vertex is ever absent.
abbrev pub TellsOfDag : TableName → List Event → List Event → ℕ → ℕ → Answer → Type 0
TellsOfDag table old new x y answer.Before = StoodInDag table old new x y
TellsOfDag table old new x y answer.After = StoodInDag table old new y x
TellsOfDag table old new x y answer.Same = x ≡ y
TellsOfDag table old new x y (answer.Absent item) = ⊥
TellsOfDag table old new x y (answer.Again again) = Unit {0}

-- a pass that has seen this log and made no step since
abbrev pub told : Seen → PassSeen
told seen = record { table = seen.table; log = seen.log; loads = 0; splits = 0 }

-- A fresh graph: its vertices in ascending order, and no arc; no vertex has a word of its own, and nothing was stored.
pub record OpensDag (vertices : ℕ) (words : TableName) (arcs : Seen) (pass : PassSeen) : Type 0 where
  pub items : words.shape.items ≡ vertices
  pub fixed : words.shape.fixed ≡ 0
  pub base : words.shape.base ≡ 0
  pub version : words.shape.version ≡ 0
  pub arcs_are : arcs ≡ record { table = words; log = [] }
  pub pass_is : pass ≡ told (record { table = words; log = [] })
  pub none : arcs_after words [] ≡ []
  pub list : list_after words [] ≡ ascending vertices

-- What the code keeps beside the log: the rows of the vertices that arcs lead to from each vertex. Nothing is left open.
pub record KeepsRows (seen : Seen) (rows : List (List ℕ)) : Type 0 where
  pub dag : IsDagAlong seen.table seen.log
  pub legal : Legal seen.table.shape seen.table.opening seen.log
  pub free : seen.table.shape.fixed ≡ 0
  pub few : seen.table.shape.items ≤ VERTICES
  pub closed : unsealed_after seen ≡ []
  pub long : length rows ≡ seen.table.shape.items
  pub rows_are : (a b : ℕ) → member b (row rows a) ≡ has_arc (arcs_after seen.table seen.log) a b
